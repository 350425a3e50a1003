-- Fat files built from another one, and an entry selected by its cpu or its index.
use Rattle.std.specs.Prelude.{◌≡◌, ◌==◌, ◌⊎◌, ℕ, ◌+◌, List, [], ◌∷◌, ◌++◌, length, take, drop, map, nat_lt, slice_get, Option, Some, None, Result, Ok, Err}
use Rattle.std.specs.Prelude.{if◌then◌else◌}
use Rattle.std.specs.List.{list_any}
use Rattle.mach_base.specs.Answer.{ErrorMeets}
use Rattle.mach_base.specs.Fault.{Fault, bad_magic}
use Rattle.mach_base.specs.declared.context.Ctx.{Ctx}
use Rattle.mach_base.specs.declared.error.Error.{Error}
use Rattle.mach_parts.specs.Magic.{magic_at}
use Rattle.mach_fat_writer.specs.CreatedEntries.{created_entry}
use Rattle.mach_fat_writer.specs.Entries.{FatEntryView, are_of_one_cpu}
use Rattle.mach_fat_writer.specs.FatForms.{FatForm}
use Rattle.mach_fat_writer.specs.FatWrites.{fat_file_of, RefusesFat}
use Rattle.mach_fat_writer.specs.Creates.{UnfitFile, IsFileOf, RefusesEntries, RefusesFiles}
use Rattle.mach_fat_writer.specs.EntriesRead.{slice_of, fat_entries_in}
use Rattle.mach_fat_writer.specs.FatTables.{form_in, fat_table_in}
use Rattle.mach_fat_writer.specs.Unfit.{Unfit, unread, not_fat, out_of_file, no_such_entry, no_such_cpu, if_fit, if_read}
use Rattle.mach_fat_writer.specs.declared.entry_record.EntryRecord.{EntryRecord}
use Rattle.mach_fat_writer.specs.declared.refusal.MakeRefusal.{MakeRefusal}
use Rattle.mach_fat_writer.specs.declared.refusal.MakeRefusal.TheVariants.{OfFile, OfAll}

-- why bytes are no fat file: they begin like an image, or like nothing that is known, or they are too few
abbrev pub no_fat_by : Result (ℕ × Option Ctx) Fault → Unfit
no_fat_by (Ok (magic, Some ctx)) = not_fat
no_fat_by (Ok (magic, None)) = unread (bad_magic magic)
no_fat_by (Err f) = unread f

abbrev pub fat_form_by : Option FatForm → List ℕ → Result FatForm Unfit
fat_form_by (Some form) bytes = Ok form
fat_form_by None bytes = Err (no_fat_by (magic_at bytes 0))

-- the form of a fat file, or why the bytes are none
abbrev pub fat_form_in : List ℕ → Result FatForm Unfit
fat_form_in bytes = fat_form_by (form_in bytes) bytes

-- the bytes of the entry of record i, if they are in the file
abbrev pub slice_or_out : ℕ → Option (List ℕ) → Result (List ℕ) Unfit
slice_or_out i (Some slice) = Ok slice
slice_or_out i None = Err (out_of_file i)

-- the bytes of the first entry of a cputype, among records that are numbered from i on
abbrev pub first_for_cpu : List ℕ → ℕ → ℕ → List EntryRecord → Result (List ℕ) Unfit
first_for_cpu bytes cputype i [] = Err (no_such_cpu cputype)
first_for_cpu bytes cputype i (r ∷ rs) =
    if r.cputype == cputype then slice_or_out i (slice_of bytes r) else first_for_cpu bytes cputype (i + 1) rs

-- The records of a fat file of either form.
abbrev pub fat_records_in : List ℕ → Result (List EntryRecord) Unfit
fat_records_in bytes = if_fit (λ form. if_read (fat_table_in form bytes)) (fat_form_in bytes)

-- The bytes of its first entry of a cputype.
abbrev pub thin_entry_in : List ℕ → ℕ → Result (List ℕ) Unfit
thin_entry_in bytes cputype = if_fit (first_for_cpu bytes cputype 0) (fat_records_in bytes)

-- the bytes of the entry of record i, if there is one
abbrev pub entry_or_none : List ℕ → ℕ → Option EntryRecord → Result (List ℕ) Unfit
entry_or_none bytes i (Some r) = slice_or_out i (slice_of bytes r)
entry_or_none bytes i None = Err (no_such_entry i)

-- The bytes of its entry at an index.
abbrev pub indexed_entry_in : List ℕ → ℕ → Result (List ℕ) Unfit
indexed_entry_in bytes i = if_fit (λ records. entry_or_none bytes i (slice_get records i)) (fat_records_in bytes)

-- what a file gives, with its index among those given if it is refused
abbrev pub of_file : {A : Type 0} → ℕ → Result A Unfit → Result A UnfitFile
of_file i (Ok x) = Ok x
of_file i (Err why) = Err (record { file = i; why = why })

-- `new` if both are for one cpu, else the entry
abbrev pub replaced_entry : FatEntryView → FatEntryView → FatEntryView
replaced_entry new e = if are_of_one_cpu e new then new else e

-- the entries with `new` instead of each that is for its cpu; there must be one
abbrev pub replaced_among : List FatEntryView → FatEntryView → Result (List FatEntryView) Unfit
replaced_among es new =
    if list_any (λ e. are_of_one_cpu e new) es then Ok (map (replaced_entry new) es) else Err (no_such_cpu new.cputype)

-- the entries without the one at an index
abbrev pub others_among : ℕ → List FatEntryView → Result (List FatEntryView) Unfit
others_among i es = if nat_lt i (length es) then Ok (take i es ++ drop (i + 1) es) else Err (no_such_entry i)

-- the entries of a fat file of this form, with the entry that `new` becomes instead of each for its cpu; the fat file is file 0,
-- `new` is file 1
abbrev pub replaced_in : List ℕ → List ℕ → FatForm → Result (List FatEntryView) UnfitFile
replaced_in bytes new form =
    if_fit (λ es. if_fit (λ e. of_file 0 (replaced_among es e)) (of_file 1 (if_read (created_entry new)))) (of_file 0 (fat_entries_in form bytes))

-- the entries of a fat file of this form without the one at an index
abbrev pub others_in : List ℕ → ℕ → FatForm → Result (List FatEntryView) Unfit
others_in bytes i form = if_fit (others_among i) (fat_entries_in form bytes)

-- The fat file with each entry for the cpu of `new` replaced by it: the form is the same, and the entries have the order of a
-- file that is created.
pub record IsReplaced (bytes new file : List ℕ) : Type 0 where
  pub form : FatForm
  pub is_form : fat_form_in bytes ≡ Ok form
  pub is_file : IsFileOf form (replaced_in bytes new form) file

-- there is no such file, because its entries together are refused
pub record RefusesReplaced (bytes new : List ℕ) (e : Error) : Type 0 where
  pub form : FatForm
  pub is_form : fat_form_in bytes ≡ Ok form
  pub refuses : RefusesEntries form (replaced_in bytes new form) e

-- Why there is no such file: one of both files is refused, or the entries together, or memory ran out.
abbrev pub RefusesReplace : List ℕ → List ℕ → MakeRefusal → Type 0
RefusesReplace bytes new (OfFile refusal) = RefusesFiles refusal (if_fit (replaced_in bytes new) (of_file 0 (fat_form_in bytes)))
RefusesReplace bytes new (OfAll e) = ErrorMeets (λ f. ⊥) e ⊎ RefusesReplaced bytes new e

-- The fat file without the entry at an index: the form and the order of the others are the same.
pub record IsWithout (bytes : List ℕ) (i : ℕ) (file : List ℕ) : Type 0 where
  pub form : FatForm
  pub is_form : fat_form_in bytes ≡ Ok form
  pub others : List FatEntryView
  pub are_others : others_in bytes i form ≡ Ok others
  pub is_file : fat_file_of form others ≡ Ok file

-- there is no such file, because the others together are refused
pub record RefusesOthers (bytes : List ℕ) (i : ℕ) (e : Error) : Type 0 where
  pub form : FatForm
  pub is_form : fat_form_in bytes ≡ Ok form
  pub others : List FatEntryView
  pub are_others : others_in bytes i form ≡ Ok others
  pub says : RefusesFat e (fat_file_of form others)

-- Why there is no such file: the file is refused, or the others together, or memory ran out.
abbrev pub RefusesRemove : List ℕ → ℕ → MakeRefusal → Type 0
RefusesRemove bytes i (OfFile refusal) = RefusesFiles refusal (if_fit (λ form. of_file 0 (others_in bytes i form)) (of_file 0 (fat_form_in bytes)))
RefusesRemove bytes i (OfAll e) = ErrorMeets (λ f. ⊥) e ⊎ RefusesOthers bytes i e
