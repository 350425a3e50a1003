-- What the bytes of an entry of a fat file say of the entry.
use Rattle.std.proofs.Common.{◌≡◌, ◌<◌, ◌≤◌, ◌∙◌, ◌/◌, ◌∷◌, ◌++◌, [], ℕ, suc, Bool, true, false, cond, nat_le, List, map, length, take}
use Rattle.std.proofs.Common.{Option, Some, None, Result, Ok, Err, slice_get, refl, sym, ap, arith}
use Rattle.std.specs.Prelude.{codes, option_map}
use Rattle.std.specs.Cmp.Lexicographic.{same_text}
use Rattle.std.proofs.lemmas.Bool.{le-leb, lt-leb, lt-ltb, true≢false, false≢true}
use Rattle.std.proofs.lemmas.List.{length-map, length-take-le}
use Rattle.std.proofs.lemmas.Option.{slice_get-map}
use Rattle.mach_base.proofs.Binds.{bind_ok, same_ok}
use Rattle.mach_base.proofs.ItemLists.{length-items_from, slice_get-items}
use Rattle.mach_base.specs.Answer.{◌>>=◌}
use Rattle.mach_base.specs.Fault.{Fault, malformed, too_short}
use Rattle.mach_base.specs.Items.{all_read}
use Rattle.mach_base.specs.Number.{number}
use Rattle.mach_base.specs.declared.context.Ctx.{Ctx}
use Rattle.mach_base.specs.declared.context.Endian.TheVariants.{Big}
use Rattle.mach_base.specs.declared.hint.Hint.TheVariants as hints
use Rattle.mach_base.specs.declared.hint.Hint.{Hint}
use Rattle.mach_parts.specs.ArchForms.{ArchForm, arch_in}
use Rattle.mach_parts.specs.Fat.{part_of}
use Rattle.mach_parts.specs.Magic.{magic_at, ctx_of, begins_archive, hint_by, hint_in}
use Rattle.goblin_mach.specs.Image.{LossyOpens}
use Rattle.goblin_mach.specs.FatEntry.{image, entry_by, fat_entry_of, arch_entry_in}
use Rattle.goblin_mach.specs.FatFile.{FatFile, archs_in, arch_table_in}
use Rattle.mach_audit.specs.Report.{named_bytes}

-- ---- the magic of an entry

-- the number of the first four bytes depends on these alone
front_number : (n : ℕ) (bytes : List ℕ) → 4 ≤ length bytes → number Big 4 (take (suc (suc (suc (suc n)))) bytes) ≡ number Big 4 bytes
front_number n [] room = absurd (omega (arith, room))
front_number n (a ∷ []) room = absurd (omega (arith, room))
front_number n (a ∷ b ∷ []) room = absurd (omega (arith, room))
front_number n (a ∷ b ∷ c ∷ []) room = absurd (omega (arith, room))
front_number n (a ∷ b ∷ c ∷ d ∷ rest) room = refl

-- an archive begins with the number of "!<ar"
archive_number : (front : List ℕ) → 4 ≤ length front → begins_archive front ≡ true → number Big 4 front ≡ 0x213c_6172
archive_number front room begins =
    sym (front_number 4 front room)
    ∙ ap (λ (xs : List ℕ). number Big 4 xs) (sym (same_text (codes "!<arch>" ++ 0x0a ∷ []) (take 8 front) (sym begins)))

-- what begins with the magic of an image is no archive
no_archive : (front : List ℕ) (ctx : Ctx) (begins : Bool) → 4 ≤ length front → begins_archive front ≡ begins → ctx_of (number Big 4 front) ≡ Some ctx
    → begins ≡ false
no_archive front ctx false room is magic = refl
no_archive front ctx true room is magic =
    let none : None ≡ Some ctx = ap (λ (n : ℕ). ctx_of n) (sym (archive_number front room is)) ∙ magic in
    absurd (cc)

magic_of : (bytes : List ℕ) (magic : ℕ) (ctx : Ctx) → 4 ≤ length bytes → magic_at bytes 0 ≡ Ok (magic, Some ctx) → ctx_of (number Big 4 bytes) ≡ Some ctx
magic_of bytes magic ctx room is =
    let inside : nat_le (length bytes) 0 ≡ false = lt-leb (length bytes) 0 (omega (arith, room)) in
    let whole : nat_le 4 (length bytes) ≡ true = le-leb 4 (length bytes) room in
    let read = rw (inside, whole) at is in
    let made : ◌≡◌ {A = ℕ × Option Ctx} (number Big 4 bytes, ctx_of (number Big 4 bytes)) (magic, Some ctx) = same_ok read in
    ap (λ (x : ℕ × Option Ctx). x.1) made

chosen_image : (room begins : Bool) (found : Option Ctx) (ctx : Ctx) (front bytes : List ℕ) → room ≡ true → begins ≡ false → found ≡ Some ctx
    → cond room (entry_by (cond begins hints.Archive (hint_by found front)) bytes) (Err malformed) ≡ Ok (image bytes)
chosen_image false begins found ctx front bytes r b f = absurd (false≢true r)
chosen_image true true found ctx front bytes r b f = absurd (true≢false b)
chosen_image true false None ctx front bytes r b f = absurd (cc)
chosen_image true false (Some c) ctx front bytes r b f = refl

-- bytes that open in lossy mode are those of an image entry
pub image_entry : (bytes : List ℕ) → LossyOpens bytes 0 → fat_entry_of bytes ≡ Ok (image bytes)
image_entry bytes opens =
    let room = opens.2.header.room in
    let four : 4 ≤ length bytes = omega (arith, room) in
    let front = take 16 bytes in
    let magic = ap (λ (n : ℕ). ctx_of n) (front_number 12 bytes four) ∙ magic_of bytes opens.2.header.magic opens.0 four opens.2.header.magic_is in
    let long : 4 ≤ length front = omega (arith, length-take-le 16 bytes (omega (arith, room))) in
    chosen_image (nat_le 16 (length bytes)) (begins_archive front) (ctx_of (number Big 4 front)) opens.0 front bytes
    (le-leb 16 (length bytes) (omega (arith, room))) (no_archive front opens.0 (begins_archive front) long refl magic) magic

-- ---- the bytes of an entry

same_slice : (room : Bool) (hint : Hint) (bytes slice : List ℕ) → cond room (entry_by hint bytes) (Err malformed) ≡ Ok (image slice) → bytes ≡ slice
same_slice false hint bytes slice is = absurd (cc)
same_slice true (hints.Mach said) bytes slice is = cc
same_slice true hints.Archive bytes slice is = absurd (cc)
same_slice true (hints.MachFat n) bytes slice is = absurd (cc)
same_slice true (hints.Unknown n) bytes slice is = absurd (cc)

-- the bytes of an image entry are those that it was found in
pub same_bytes : (bytes slice : List ℕ) → fat_entry_of bytes ≡ Ok (image slice) → bytes ≡ slice
same_bytes bytes slice is = same_slice (nat_le 16 (length bytes)) (hint_in (take 16 bytes)) bytes slice is

-- ---- the record of an entry

all_there : {X : Type 0} (items : List (Result X Fault)) (xs : List X) → all_read items ≡ Ok xs → items ≡ map (λ x. Ok x) xs
all_there [] xs is = let same : [] ≡ xs = same_ok is in rw (← same) refl
all_there (Err f ∷ items) xs is = absurd (cc)
all_there (Ok x ∷ items) xs is =
    let rest = bind_ok (all_read items) (λ ys. Ok (x ∷ ys)) xs is in
    let same : x ∷ rest.0 ≡ xs = same_ok rest.2 in
    ap (λ ys. Ok x ∷ ys) (all_there items rest.0 rest.1) ∙ ap (map (λ x. Ok x)) same

read_by : {R : Type 0} (fit : Bool) (there : Result (List R) Fault) (f : Fault) (xs : List R) → cond fit there (Err f) ≡ Ok xs → there ≡ Ok xs
read_by true there f xs is = is
read_by false there f xs is = absurd (cc)

record_there : {R : Type 0} (found : Option R) (record_is : Result R Fault) → option_map (λ arch. Ok arch) found ≡ Some record_is
    → (arch : R) × (found ≡ Some arch) × (record_is ≡ Ok arch)
record_there None r is = absurd (cc)
record_there (Some arch) r is = (arch, refl, cc)

module _ {R : Type 0} (form : ArchForm R) where
  abbrev as_read : R → Result R Fault
  as_read arch = Ok arch

  -- the records of a table that can be read
  records_read : (file : FatFile) (xs : List R) → arch_table_in form file ≡ Ok xs → all_read (archs_in form file) ≡ Ok xs
  records_read file xs is =
      read_by (nat_le file.narches (length file.bytes / form.stride)) (all_read (archs_in form file)) (too_short file.narches (codes "arches")) xs is

  -- there are as many records as the header says
  pub arches_count : (file : FatFile) (xs : List R) → arch_table_in form file ≡ Ok xs → length xs ≡ file.narches
  arches_count file xs is =
      omega (
        arith,
        ap length (all_there (archs_in form file) xs (records_read file xs is)),
        length-map xs as_read,
        length-items_from (arch_in form file.bytes) 0 file.narches,
      )

  -- the entry of a record that is there, with an index below the count
  entry_of_record : (file : FatFile) (k : ℕ) (arch : R) → k < file.narches → arch_in form file.bytes k ≡ Ok arch
      → arch_entry_in form file k ≡ fat_entry_of (part_of file.bytes (form.offset arch) (form.size arch))
  entry_of_record file k arch inside is =
      ap (λ (b : Bool). cond b (arch_in form file.bytes k >>= λ a. fat_entry_of (part_of file.bytes (form.offset a) (form.size a))) (Err malformed))
      (lt-ltb k file.narches inside)
      ∙ ap (λ (r : Result R Fault). r >>= λ a. fat_entry_of (part_of file.bytes (form.offset a) (form.size a))) is

  -- the entry is the bytes of the file that its record names
  pub named_entry : (file : FatFile) (k : ℕ) (xs : List R) → k < file.narches → arch_table_in form file ≡ Ok xs
      → fat_entry_of (named_bytes form file.bytes (slice_get xs k)) ≡ arch_entry_in form file k
  named_entry file k xs inside is =
      let found = slice_get xs k in
      let by_number = ap (λ (ys : List (Result R Fault)). slice_get ys k) (sym (all_there (archs_in form file) xs (records_read file xs is)))
      ∙ slice_get-items (arch_in form file.bytes) file.narches k inside in
      let there = record_there found (arch_in form file.bytes k) (sym (slice_get-map (λ (x : R). Ok x) xs k) ∙ by_number) in
      ap (λ (r : Option R). fat_entry_of (named_bytes form file.bytes r)) there.1
      ∙ sym (entry_of_record file k there.0 inside there.2)
