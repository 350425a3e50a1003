-- Entries that are collected part by part, and the error if they can't be.
use Rattle.std.proofs.Common.{◌≡◌, ℕ, ◌+◌, ◌<◌, ◌≤◌, List, [], ◌∷◌, ◌++◌, length, drop, get_or, Result, Ok, Err, inl, inr, refl, sym, ap, ◌∙◌, append_assoc}
use Rattle.std.proofs.lemmas.List.{append-nil, at_drop_more, drop_all}
use Rattle.mach_base.specs.Answer.{FailsAs, ErrorMeets, ◌>>=◌}
use Rattle.mach_base.specs.Fault.{Fault}
use Rattle.mach_base.specs.declared.error.Error.{Error}
use Rattle.mach_base.specs.declared.error.Error.TheVariants as errors
use Rattle.mach_fat_writer.specs.Entries.{FatEntryView}
use Rattle.mach_fat_writer.specs.FatForms.{FatForm}
use Rattle.mach_fat_writer.specs.FatWrites.{fat_file_of, RefusesFat}
use Rattle.mach_fat_writer.specs.Parts.{ahead_of, part_entries, part_entry, IsPartsFault}
use Rattle.mach_fat_writer.specs.declared.part.FatPart.{FatPart}

-- some entries before others
abbrev pub before : List FatEntryView → Result (List FatEntryView) Fault → Result (List FatEntryView) Fault
before front (Ok es) = Ok (front ++ es)
before front (Err f) = Err f

before_one : (front : List FatEntryView) (e : FatEntryView) (rest : Result (List FatEntryView) Fault)
    → before front (ahead_of e rest) ≡ before (front ++ e ∷ []) rest
before_one front e (Ok es) = ap Ok (sym (append_assoc front (e ∷ []) es))
before_one front e (Err f) = refl

before_none : (rest : Result (List FatEntryView) Fault) → rest ≡ before [] rest
before_none (Ok es) = refl
before_none (Err f) = refl

module _ (bytes : List ℕ) (parts : List FatPart) where
  pub parts_first : (found : List FatEntryView) → found ≡ [] → part_entries bytes parts ≡ before found (part_entries bytes parts)
  parts_first found none = before_none (part_entries bytes parts) ∙ ap (λ es. before es (part_entries bytes parts)) (sym none)

  pub parts_next : (found pushed : List FatEntryView) (i : ℕ) (d : FatPart) (e : FatEntryView) → i < length parts
      → part_entries bytes parts ≡ before found (part_entries bytes (drop i parts)) → part_entry bytes (get_or parts i d) ≡ Ok e
      → pushed ≡ found ++ e ∷ [] → part_entries bytes parts ≡ before pushed (part_entries bytes (drop (i + 1) parts))
  parts_next found pushed i d e inside gathered is more =
      let rest = part_entries bytes (drop (i + 1) parts) in
      gathered
      ∙ ap (before found) (at_drop_more (λ ps. part_entries bytes ps) parts i d inside)
      ∙ ap (λ there. before found (there >>= (λ x. ahead_of x rest))) is
      ∙ before_one found e rest
      ∙ ap (λ es. before es rest) (sym more)

  pub parts_refused : (found : List FatEntryView) (i : ℕ) (d : FatPart) (f : Fault) → i < length parts
      → part_entries bytes parts ≡ before found (part_entries bytes (drop i parts)) → part_entry bytes (get_or parts i d) ≡ Err f
      → part_entries bytes parts ≡ Err f
  parts_refused found i d f inside gathered is =
      gathered
      ∙ ap (before found) (at_drop_more (λ ps. part_entries bytes ps) parts i d inside)
      ∙ ap (λ there. before found (there >>= (λ x. ahead_of x (part_entries bytes (drop (i + 1) parts))))) is

  pub parts_all : (found : List FatEntryView) (i : ℕ) → length parts ≤ i
      → part_entries bytes parts ≡ before found (part_entries bytes (drop i parts)) → part_entries bytes parts ≡ Ok found
  parts_all found i past gathered =
      gathered ∙ ap (λ ps. before found (part_entries bytes ps)) (drop_all i parts past) ∙ ap Ok (append-nil found)

  -- an error that says why a part isn't there is one that says why there is no file
  pub parts_occur : (form : FatForm) (e : Error) → FailsAs e (part_entries bytes parts) → ErrorMeets (IsPartsFault bytes parts form) e
  parts_occur form (errors.Malformed msg) why = inl why
  parts_occur form (errors.BadMagic magic) why = inl why
  parts_occur form (errors.Scroll e) why = inl why
  parts_occur form (errors.BufferTooShort count what) why = inl why
  parts_occur form (errors.Memory e) why = tt

  pub file_occurs : (form : FatForm) (es : List FatEntryView) (e : Error) → part_entries bytes parts ≡ Ok es → RefusesFat e (fat_file_of form es)
      → ErrorMeets (IsPartsFault bytes parts form) e
  file_occurs form es (errors.Malformed msg) are why = inr (es, are, (why.0, why.1), refl)
  file_occurs form es (errors.BadMagic magic) are why = absurd why
  file_occurs form es (errors.Scroll e) are why = absurd why
  file_occurs form es (errors.BufferTooShort count what) are why = absurd why
  file_occurs form es (errors.Memory e) are why = tt
