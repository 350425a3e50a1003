-- Entries of a fat file that are replaced or removed, and one that is searched by its cpu.
use Rattle.std.proofs.Common.{arith, suc, ◌≡◌, ℕ, ◌+◌, ◌<◌, ◌≤◌, List, ◌++◌, length, take, drop, get_or, map, Bool, true, false, nat_lt}
use Rattle.std.proofs.Common.{Result, Ok, Err, inl, inr, ◌⊎◌, sym, ap, ◌∙◌}
use Rattle.std.specs.List.{list_any, remove}
use Rattle.std.specs.Prelude.{if◌then◌else◌}
use Rattle.std.proofs.lemmas.Bool.{ne_eqb, eq-eqb, lt-ltb, le-ltb}
use Rattle.std.proofs.lemmas.List.{at_drop_more, drop_all, map-append, take-map, drop-map, length-map}
use Rattle.mach_base.specs.Answer.{ErrorMeets}
use Rattle.mach_base.specs.declared.error.Error.{Error}
use Rattle.mach_fat_writer.proofs.Laid.{any_of_views}
use Rattle.mach_fat_writer.specs.CreatedEntries.{created_entry}
use Rattle.mach_fat_writer.specs.Entries.{FatEntryView, fat_entry_view, entry_views, are_of_one_cpu}
use Rattle.mach_fat_writer.specs.FatForms.{FatForm}
use Rattle.mach_fat_writer.specs.declared.entry.FatEntry.{FatEntry}
use Rattle.mach_fat_writer.proofs.Refusals.{refused_file, refused_more, refused_then}
use Rattle.mach_fat_writer.specs.Changes.{first_for_cpu, slice_or_out, fat_form_in, of_file, others_among, replaced_among, replaced_entry, replaced_in}
use Rattle.mach_fat_writer.specs.Changes.{RefusesReplaced}
use Rattle.mach_fat_writer.specs.Creates.{UnfitFile, RefusesFiles, RefusesInOrder}
use Rattle.mach_fat_writer.specs.EntriesRead.{slice_of, fat_entries_in}
use Rattle.mach_fat_writer.specs.Unfit.{Unfit, no_such_cpu, no_such_entry, RefusesAs, if_fit, if_read}
use Rattle.mach_fat_writer.specs.declared.entry_record.EntryRecord.{EntryRecord}
use Rattle.mach_fat_writer.specs.declared.refusal.EntryRefusal.{EntryRefusal}
use Rattle.mach_fat_writer.specs.declared.refusal.FileRefusal.{FileRefusal}

-- a search for an entry among records; those before it are for other cpus
module _ (bytes : List ℕ) (cputype : ℕ) (records : List EntryRecord) (i : ℕ) where
  pub cpu_after : (d : EntryRecord) → i < length records → ((get_or records i d).cputype ≡ cputype → ⊥)
      → first_for_cpu bytes cputype 0 records ≡ first_for_cpu bytes cputype i (drop i records)
      → first_for_cpu bytes cputype 0 records ≡ first_for_cpu bytes cputype (i + 1) (drop (i + 1) records)
  cpu_after d inside other target =
      let r = get_or records i d in
      let pick : Bool → Result (List ℕ) Unfit
      = λ b. if b then slice_or_out i (slice_of bytes r) else first_for_cpu bytes cputype (i + 1) (drop (i + 1) records) in
      target ∙ at_drop_more (λ rs. first_for_cpu bytes cputype i rs) records i d inside ∙ ap pick (ne_eqb r.cputype cputype other)

  pub cpu_here : (d : EntryRecord) → i < length records → (get_or records i d).cputype ≡ cputype
      → first_for_cpu bytes cputype 0 records ≡ first_for_cpu bytes cputype i (drop i records)
      → first_for_cpu bytes cputype 0 records ≡ slice_or_out i (slice_of bytes (get_or records i d))
  cpu_here d inside same target =
      let r = get_or records i d in
      let pick : Bool → Result (List ℕ) Unfit
      = λ b. if b then slice_or_out i (slice_of bytes r) else first_for_cpu bytes cputype (i + 1) (drop (i + 1) records) in
      target ∙ at_drop_more (λ rs. first_for_cpu bytes cputype i rs) records i d inside ∙ ap pick (eq-eqb r.cputype cputype same)

  pub no_cpu_after : length records ≤ i → first_for_cpu bytes cputype 0 records ≡ first_for_cpu bytes cputype i (drop i records)
      → first_for_cpu bytes cputype 0 records ≡ Err (no_such_cpu cputype)
  no_cpu_after past target = target ∙ ap (λ rs. first_for_cpu bytes cputype i rs) (drop_all i records past)

-- entries, of which one is for the cpu of `new`, or none
module _ (es : List FatEntry) (new : FatEntryView) where
  replaced_if : (b : Bool) → list_any (λ e. are_of_one_cpu (fat_entry_view e) new) es ≡ b
      → replaced_among (entry_views es) new ≡ (if b then Ok (map (replaced_entry new) (entry_views es)) else Err (no_such_cpu new.cputype))
  replaced_if b is =
      let pick : Bool → Result (List FatEntryView) Unfit
      = λ x. if x then Ok (map (replaced_entry new) (entry_views es)) else Err (no_such_cpu new.cputype) in
      ap pick (sym (any_of_views (λ e. are_of_one_cpu e new) es) ∙ is)

  pub replaced_are : (changed : List FatEntry) → list_any (λ e. are_of_one_cpu (fat_entry_view e) new) es ≡ true
      → entry_views changed ≡ map (replaced_entry new) (entry_views es) → replaced_among (entry_views es) new ≡ Ok (entry_views changed)
  replaced_are changed has are = replaced_if true has ∙ ap Ok (sym are)

  pub none_replaced : list_any (λ e. are_of_one_cpu (fat_entry_view e) new) es ≡ false → replaced_among (entry_views es) new ≡ Err (no_such_cpu new.cputype)
  none_replaced has = replaced_if false has

-- the entries without the one at an index
module _ (i : ℕ) (es : List FatEntry) where
  others_if : (b : Bool) → nat_lt i (length (entry_views es)) ≡ b
      → others_among i (entry_views es) ≡ (if b then Ok (take i (entry_views es) ++ drop (i + 1) (entry_views es)) else Err (no_such_entry i))
  others_if b is =
      let pick : Bool → Result (List FatEntryView) Unfit
      = λ x. if x then Ok (take i (entry_views es) ++ drop (i + 1) (entry_views es)) else Err (no_such_entry i) in
      ap pick is

  pub no_others : length es ≤ i → others_among i (entry_views es) ≡ Err (no_such_entry i)
  no_others past = others_if false (ap (nat_lt i) (length-map es fat_entry_view) ∙ le-ltb i (length es) past)

  next : suc i ≡ i + 1
  next = omega (arith)

  pub others_are : (others : List FatEntry) → i < length es → others ≡ remove es i
      → others_among i (entry_views es) ≡ Ok (entry_views others)
  others_are others inside are =
      others_if true (ap (nat_lt i) (length-map es fat_entry_view) ∙ lt-ltb i (length es) inside)
      ∙ ap (λ front. Ok (front ++ drop (i + 1) (entry_views es))) (take-map fat_entry_view i es)
      ∙ ap (λ back. Ok (entry_views (take i es) ++ back)) (drop-map fat_entry_view (i + 1) es)
      ∙ ap Ok (sym (map-append fat_entry_view (take i es) (drop (i + 1) es)))
      ∙ ap (λ xs. Ok (entry_views xs)) (sym (are ∙ ap (λ n. take i es ++ drop n es) next))

-- the entries of a fat file with another file's instead of some, step by step
module _ (bytes new : List ℕ) (form : FatForm) where
  abbrev after_entries : List FatEntryView → Result (List FatEntryView) UnfitFile
  after_entries es = if_fit (λ e. of_file 0 (replaced_among es e)) (of_file 1 (if_read (created_entry new)))

  pub fat_refused : (why : EntryRefusal) → RefusesAs why (fat_entries_in form bytes)
      → RefusesFiles (record { file = 0; why = why }) (replaced_in bytes new form)
  fat_refused why refuses =
      refused_more after_entries (record { file = 0; why = why }) (of_file 0 (fat_entries_in form bytes))
      (refused_file 0 why (fat_entries_in form bytes) refuses)

  pub new_refused : (es : List FatEntryView) (why : EntryRefusal) → fat_entries_in form bytes ≡ Ok es → RefusesAs why (if_read (created_entry new))
      → RefusesFiles (record { file = 1; why = why }) (replaced_in bytes new form)
  new_refused es why are refuses =
      let refusal : FileRefusal = record { file = 1; why = why } in
      refused_then after_entries refusal (of_file 0 (fat_entries_in form bytes)) es (ap (of_file 0) are)
      (refused_more (λ e. of_file 0 (replaced_among es e)) refusal (of_file 1 (if_read (created_entry new)))
      (refused_file 1 why (if_read (created_entry new)) refuses))

  pub cpu_refused : (es : List FatEntryView) (e : FatEntryView) (why : EntryRefusal) → fat_entries_in form bytes ≡ Ok es
      → if_read (created_entry new) ≡ Ok e → RefusesAs why (replaced_among es e)
      → RefusesFiles (record { file = 0; why = why }) (replaced_in bytes new form)
  cpu_refused es e why are is refuses =
      let refusal : FileRefusal = record { file = 0; why = why } in
      refused_then after_entries refusal (of_file 0 (fat_entries_in form bytes)) es (ap (of_file 0) are)
      (refused_then (λ x. of_file 0 (replaced_among es x)) refusal (of_file 1 (if_read (created_entry new))) e (ap (of_file 1) is)
      (refused_file 0 why (replaced_among es e) refuses))

  pub replaced_there : (es xs : List FatEntryView) (e : FatEntryView) → fat_entries_in form bytes ≡ Ok es → if_read (created_entry new) ≡ Ok e
      → replaced_among es e ≡ Ok xs → replaced_in bytes new form ≡ Ok xs
  replaced_there es xs e are is replaced =
      ap (λ there. if_fit after_entries (of_file 0 there)) are
      ∙ ap (λ there. if_fit (λ x. of_file 0 (replaced_among es x)) (of_file 1 there)) is
      ∙ ap (of_file 0) replaced

-- why there is no file of entries in which some are replaced
pub refused_order : (bytes new : List ℕ) (form : FatForm) (given : List FatEntry) (e : Error) → fat_form_in bytes ≡ Ok form
    → replaced_in bytes new form ≡ Ok (entry_views given) → RefusesInOrder form given e → ErrorMeets (λ f. ⊥) e ⊎ RefusesReplaced bytes new e
refused_order bytes new form given e is are (inl want) = inl want
refused_order bytes new form given e is are (inr none) =
    inr (record { form = form; is_form = is; refuses = record { given = given; are_entries = are; has_none = none } })
