-- Records and entries of a fat file by their number.
use Rattle.std.proofs.Common.{◌≡◌, ℕ, ◌+◌, ◌-◌, ◌<◌, List, length, drop, slice_get, Some, Ok, Err, inl, inr, cond, nat_le, sym, ◌∙◌}
use Rattle.std.proofs.lemmas.Option.{slice_get_within}
use Rattle.mach_base.specs.declared.context.Endian.TheVariants.{Big}
use Rattle.mach_base.specs.Fault.{bad_offset, too_big}
use Rattle.mach_base.specs.Number.{number, bounded}
use Rattle.mach_base.proofs.Binds.{chosen, same_ok}
use Rattle.mach_base.specs.Items.{items_from}
use Rattle.mach_base.proofs.ItemLists.{length-items_from, slice_get-items}
use Rattle.goblin_mach.specs.FatFile.{FatFile, fat_file_in}

some_is : {X : Type 0} (x y : X) → Some x ≡ Some y → x ≡ y
some_is x y e = cc

-- what is in the list at a number is the item with that number
pub item-only : {X : Type 0} (item : ℕ → X) (count k : ℕ) (x : X) → slice_get (items_from item 0 count) k ≡ Some x → (k < count) × (item k ≡ x)
item-only item count k x got =
    let within : k < length (items_from item 0 count) = slice_get_within (items_from item 0 count) k x got in
    let inside : k < count = rw (length-items_from item 0 count) at within in
    (inside, some_is (item k) x (sym (slice_get-items item count k inside) ∙ got))

there_is : {X : Type 0} (n s : ℕ) (bytes : List ℕ) (found y : X) → bounded n bytes s found ≡ Ok y → found ≡ y
there_is n s bytes found y e =
    let later = cond (nat_le (s + n) (length bytes)) (Ok found) (Err (too_big n (length bytes - s))) in
    elim (chosen (nat_le (length bytes) s) (Err (bad_offset s)) later (Ok y) e) [
      | inl none ↦ absurd (let wrong = none.1 in cc)
      | inr later ↦ elim (chosen (nat_le (s + n) (length bytes)) (Ok found) (Err (too_big n (length bytes - s))) (Ok y) later.1) [
        | inl is ↦ same_ok is.1
        | inr few ↦ absurd (let wrong = few.1 in cc)
      ]
    ]

-- the fat file in some bytes
pub file_is : (bytes : List ℕ) (file : FatFile) → fat_file_in bytes ≡ Ok file → record { bytes = bytes; narches = number Big 4 (drop 4 bytes) } ≡ file
file_is bytes file e = there_is 8 0 bytes (record { bytes = bytes; narches = number Big 4 (drop 4 bytes) }) file e
