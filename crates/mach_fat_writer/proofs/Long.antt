-- How many bytes a fat file has.
use Rattle.std.proofs.Common.{◌≡◌, ℕ, suc, ◌+◌, ◌*◌, ◌++◌, ◌∷◌, [], List, length, drop, Result, Ok, Err, MatchResult, nat_le}
use Rattle.std.proofs.Common.{mul-suc, refl, sym, ap, ◌∙◌, arith}
use Rattle.std.specs.Prelude.{if◌then◌else◌}
use Rattle.std.proofs.lemmas.List.{length-append}
use Rattle.byteorder.specs.Numbers.{length-bytes_high_first}
use Rattle.mach_base.specs.Number.{number_bytes}
use Rattle.mach_base.specs.Record.{Field, num, arr, Value, number_is, bytes_are, size, spelling}
use Rattle.mach_base.specs.declared.context.Endian.TheVariants.{Big}
use Rattle.mach_base.specs.declared.error.Error.{Error}
use Rattle.mach_parts.specs.Fat.{fat_header_fields}
use Rattle.mach_fat_writer.specs.Entries.{FatEntryView}
use Rattle.mach_fat_writer.specs.FatForms.{FatForm, fat_form_32, fat_form_64, table_end, fat_place_after, end_after}
use Rattle.mach_fat_writer.specs.FatForms.{fat_end, fat_front, fat_records, fat_contents, fat_bytes}
use Rattle.mach_fat_writer.specs.FatWrites.{fat_file_of, RefusesFat}
use Rattle.mach_fat_writer.specs.Placed.{AreSet, IsWrittenInto}
use Rattle.mach_fat_writer.proofs.Places.{length-contents}

-- values that fit fields of numbers
abbrev AreNumbers : List Field → List Value → Type 0
AreNumbers [] [] = Unit {0}
AreNumbers [] (v ∷ vs) = ⊥
AreNumbers (f ∷ fs) [] = ⊥
AreNumbers (num n ∷ fs) (number_is x ∷ vs) = AreNumbers fs vs
AreNumbers (num n ∷ fs) (bytes_are xs ∷ vs) = ⊥
AreNumbers (arr n ∷ fs) (v ∷ vs) = ⊥

long_spelling : (fs : List Field) (vs : List Value) → AreNumbers fs vs → length (spelling Big fs vs) ≡ size fs
long_spelling [] [] are = refl
long_spelling [] (v ∷ vs) are = absurd are
long_spelling (f ∷ fs) [] are = absurd are
long_spelling (num n ∷ fs) (number_is x ∷ vs) are =
    omega (arith, length-append (number_bytes Big n x) (spelling Big fs vs), length-bytes_high_first n x, long_spelling fs vs are)
long_spelling (num n ∷ fs) (bytes_are xs ∷ vs) are = absurd are
long_spelling (arr n ∷ fs) (v ∷ vs) are = absurd are

module _ (form : FatForm) (are : (e : FatEntryView) (at : ℕ) → AreNumbers form.fields (form.values e at)) where
  long_records : (from : ℕ) (es : List FatEntryView) → length (fat_records form from es) ≡ size form.fields * length es
  long_records from [] = omega arith
  long_records from (e ∷ es) =
      let vs = form.values e (fat_place_after from e) in
      let later = long_records (end_after from e) es in
      let more : size form.fields * suc (length es) ≡ size form.fields * length es + size form.fields = mul-suc (size form.fields) (length es) in
      omega (
        arith,
        later,
        more,
        length-append (spelling Big form.fields vs) (fat_records form (end_after from e) es),
        long_spelling form.fields vs (are e (fat_place_after from e)),
      )

  long_file : (es : List FatEntryView) → length (fat_bytes form es) ≡ fat_end (table_end form (length es)) es
  unfolding fat_bytes
  long_file es =
      let from = table_end form (length es) in
      let records = fat_records form from es in
      let contents = fat_contents from es in
      omega (
        arith,
        length-append (fat_front form (length es)) (records ++ contents),
        length-append records contents,
        long_spelling fat_header_fields (number_is form.magic ∷ number_is (length es) ∷ []) tt,
        long_records from es,
        length-contents from es,
      )

  written_into : (es : List FatEntryView) (len : ℕ) (old new : List ℕ) → AreSet len form es old new → IsWrittenInto len (fat_file_of form es) old new
  written_into es len old new s =
      let same : len ≡ length (fat_bytes form es) = s.ends ∙ sym (long_file es) in
      record {
        file = fat_bytes form es;
        is_there = s.there;
        is_long = same;
        written = s.set ∙ ap (λ (n : ℕ). if nat_le n (length old) then fat_bytes form es ++ drop n old else old) same;
      }

  answered : (es : List FatEntryView) (old new : List ℕ) (r : Result ℕ Error)
      → MatchResult r (λ end. AreSet end form es old new) (λ e. RefusesFat e (fat_file_of form es))
      → MatchResult r (λ len. IsWrittenInto len (fat_file_of form es) old new) (λ e. RefusesFat e (fat_file_of form es))
  answered es old new (Ok end) set = written_into es end old new set
  answered es old new (Err e) why = why

pub answered_32 : (es : List FatEntryView) (old new : List ℕ) (r : Result ℕ Error)
    → MatchResult r (λ end. AreSet end fat_form_32 es old new) (λ e. RefusesFat e (fat_file_of fat_form_32 es))
    → MatchResult r (λ len. IsWrittenInto len (fat_file_of fat_form_32 es) old new) (λ e. RefusesFat e (fat_file_of fat_form_32 es))
answered_32 = answered fat_form_32 (λ e at. tt)

pub answered_64 : (es : List FatEntryView) (old new : List ℕ) (r : Result ℕ Error)
    → MatchResult r (λ end. AreSet end fat_form_64 es old new) (λ e. RefusesFat e (fat_file_of fat_form_64 es))
    → MatchResult r (λ len. IsWrittenInto len (fat_file_of fat_form_64 es) old new) (λ e. RefusesFat e (fat_file_of fat_form_64 es))
answered_64 = answered fat_form_64 (λ e at. tt)
