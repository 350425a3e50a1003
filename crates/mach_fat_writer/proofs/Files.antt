-- What a file of entries is, by each of the tests.
use Rattle.std.proofs.Common.{◌≡◌, ℕ, true, false, List, ◌++◌, length, Result, Ok, Err, IfOk, MatchResult, refl, sym, ap, ◌∙◌, append_assoc}
use Rattle.std.specs.List.{list_any}
use Rattle.mach_fat_writer.specs.Entries.{FatEntryView, are_of_one_cpu, any_two}
use Rattle.mach_fat_writer.specs.FatForms.{FatForm, table_end, fat_front, fat_records, fat_contents, fat_bytes}
use Rattle.mach_fat_writer.specs.FatWrites.{far_aligned, one_cpu_twice, too_far, is_far_aligned, is_encodable, fat_file_of, RefusesFat}
use Rattle.mach_base.specs.Answer.{IsOkUnlessMemory}
use Rattle.mach_base.specs.declared.error.Error.{Error}
use Rattle.mach_base.specs.declared.error.Error.TheVariants as errors

module _ (form : FatForm) (es : List FatEntryView) where
  pub file_far : list_any is_far_aligned es ≡ true → fat_file_of form es ≡ Err far_aligned
  file_far far = rw far refl

  pub file_twice : list_any is_far_aligned es ≡ false → any_two are_of_one_cpu es ≡ true → fat_file_of form es ≡ Err one_cpu_twice
  file_twice near two = rw (near, two) refl

  pub file_too_far : list_any is_far_aligned es ≡ false → any_two are_of_one_cpu es ≡ false → is_encodable form es ≡ false
      → fat_file_of form es ≡ Err too_far
  file_too_far near apart past = rw (near, apart, past) refl

  pub file_is : list_any is_far_aligned es ≡ false → any_two are_of_one_cpu es ≡ false → is_encodable form es ≡ true
      → fat_file_of form es ≡ Ok (fat_bytes form es)
  file_is near apart encodable = rw (near, apart, encodable) refl

  -- a written file, and a refusal of memory, answer what the definition says
  pub file_answered : {V : Type 0} (items : V → List ℕ) (r : Result V Error) → list_any is_far_aligned es ≡ false → any_two are_of_one_cpu es ≡ false
      → is_encodable form es ≡ true → IfOk r (λ file. items file ≡ fat_bytes form es) → IsOkUnlessMemory r
      → MatchResult r (λ file. fat_file_of form es ≡ Ok (items file)) (λ e. RefusesFat e (fat_file_of form es))
  file_answered items (Ok file) near apart encodable written only = file_is near apart encodable ∙ ap Ok (sym written)
  file_answered items (Err (errors.Malformed msg)) near apart encodable written only = absurd only
  file_answered items (Err (errors.BadMagic magic)) near apart encodable written only = absurd only
  file_answered items (Err (errors.Scroll e)) near apart encodable written only = absurd only
  file_answered items (Err (errors.BufferTooShort count what)) near apart encodable written only = absurd only
  file_answered items (Err (errors.Memory e)) near apart encodable written only = tt

  -- the three parts, one after the other
  pub bytes_are : (from : ℕ) → from ≡ table_end form (length es)
      → (fat_front form (length es) ++ fat_records form from es) ++ fat_contents from es ≡ fat_bytes form es
  unfolding fat_bytes
  bytes_are from at =
      append_assoc (fat_front form (length es)) (fat_records form from es) (fat_contents from es)
      ∙ ap (λ (n : ℕ). fat_front form (length es) ++ (fat_records form n es ++ fat_contents n es)) at
