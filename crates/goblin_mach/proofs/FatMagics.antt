-- Where the magic of a fat file is at the start.
use Rattle.std.proofs.Common.{◌≡◌, ℕ, ◌≤◌, true, false, List, length, drop, nat_le, Ok, refl, ap, sym, ◌∙◌, arith}
use Rattle.std.proofs.lemmas.Bool.{le-leb, lt-leb}
use Rattle.mach_base.specs.declared.context.Endian.TheVariants.{Big}
use Rattle.mach_base.specs.Number.{number, number_at}
use Rattle.mach_base.proofs.Binds.{same_ok}
use Rattle.goblin_mach.specs.File.{HasFatMagic}

-- four bytes have a number
pub number-there : (bytes : List ℕ) → 4 ≤ length bytes → number_at Big 4 bytes 0 ≡ Ok (number Big 4 (drop 0 bytes))
number-there bytes room =
    let inside : nat_le (length bytes) 0 ≡ false = lt-leb (length bytes) 0 (omega (arith, room)) in
    let whole : nat_le 4 (length bytes) ≡ true = le-leb 4 (length bytes) room in
    rw (inside, whole) refl

pub fat_magic-there : (bytes : List ℕ) → 4 ≤ length bytes → number Big 4 (drop 0 bytes) ≡ 0xcafe_babe → HasFatMagic bytes
fat_magic-there bytes room is = number-there bytes room ∙ ap (λ (n : ℕ). Ok n) is

pub fat_magic-other : (bytes : List ℕ) → 4 ≤ length bytes → ¬ (number Big 4 (drop 0 bytes) ≡ 0xcafe_babe) → ¬ (HasFatMagic bytes)
fat_magic-other bytes room other fat = other (same_ok (sym (number-there bytes room) ∙ fat))
