-- The fat file that is created from files.
use Rattle.std.specs.Prelude.{◌≡◌, ◌⊎◌, ℕ, ◌+◌, List, [], ◌∷◌, ◌++◌, map, Result, Ok, Err}
use Rattle.std.specs.Borrow.{Bor}
use Rattle.std.specs.List.Sorted.{IsPermutation, IsSortedByKey, IsStableByKey}
use Rattle.mach_base.specs.Answer.{ErrorMeets}
use Rattle.mach_base.specs.declared.error.Error.{Error}
use Rattle.mach_fat_writer.specs.CreatedOrder.{fat_rank, fat_rank_cmp}
use Rattle.mach_fat_writer.specs.Entries.{FatEntryView, fat_entry_view, entry_views}
use Rattle.mach_fat_writer.specs.FatForms.{FatForm}
use Rattle.mach_fat_writer.specs.FatWrites.{fat_file_of, RefusesFat}
use Rattle.mach_fat_writer.specs.declared.entry.FatEntry.{FatEntry}
use Rattle.mach_fat_writer.specs.EntriesRead.{file_entries}
use Rattle.mach_fat_writer.specs.Unfit.{Unfit, RefusesBy}
use Rattle.mach_fat_writer.specs.declared.refusal.FileRefusal.{FileRefusal}
use Rattle.mach_fat_writer.specs.declared.refusal.MakeRefusal.{MakeRefusal}
use Rattle.mach_fat_writer.specs.declared.refusal.MakeRefusal.TheVariants.{OfFile, OfAll}

abbrev pub texts_now : List (Bor (List ℕ)) → List (List ℕ)
texts_now files = map (λ f. f.now) files

-- a refused file: its index, and why
pub record UnfitFile : Type 0 where
  pub file : ℕ
  pub why : Unfit

-- the entries of file i before those of the later files
abbrev pub entries_before : ℕ → Result (List FatEntryView) Unfit → Result (List FatEntryView) UnfitFile → Result (List FatEntryView) UnfitFile
entries_before i (Ok es) (Ok rest) = Ok (es ++ rest)
entries_before i (Ok es) (Err unfit) = Err unfit
entries_before i (Err why) rest = Err (record { file = i; why = why })

-- the entries of files, numbered from i on, one file after the other; or the first file that is refused
abbrev pub entries_of_files : ℕ → List (List ℕ) → Result (List FatEntryView) UnfitFile
entries_of_files i [] = Ok []
entries_of_files i (f ∷ fs) = entries_before i (file_entries f) (entries_of_files (i + 1) fs)

-- a refusal says which file is refused and why, or that memory ran out
abbrev pub RefusesFiles : {Y : Type 0} → FileRefusal → Result Y UnfitFile → Type 0
RefusesFiles refusal there = RefusesBy (λ why. record { file = refusal.file; why = why }) refusal.why there

-- entries, and the same entries in the order of a created fat file
pub record IsInOrder (given ordered : List FatEntry) : Type 0 where
  pub permutation : IsPermutation given ordered
  pub sorted : IsSortedByKey (λ e. fat_rank (entry_views given) (fat_entry_view e)) fat_rank_cmp ordered
  pub stable : IsStableByKey (λ e. fat_rank (entry_views given) (fat_entry_view e)) fat_rank_cmp given ordered

-- the file of the entries, in that order
pub record IsFileInOrder (form : FatForm) (given : List FatEntry) (file : List ℕ) : Type 0 where
  pub ordered : List FatEntry
  pub in_order : IsInOrder given ordered
  pub is_file : fat_file_of form (entry_views ordered) ≡ Ok file

-- in that order there is no file of the entries, and the error says why
pub record HasNoFileInOrder (form : FatForm) (given : List FatEntry) (e : Error) : Type 0 where
  pub ordered : List FatEntry
  pub in_order : IsInOrder given ordered
  pub says : RefusesFat e (fat_file_of form (entry_views ordered))

-- why there is none, or that memory ran out
abbrev pub RefusesInOrder : FatForm → List FatEntry → Error → Type 0
RefusesInOrder form given e = ErrorMeets (λ f. ⊥) e ⊎ HasNoFileInOrder form given e

-- The fat file of entries that could be read, in that order.
pub record IsFileOf (form : FatForm) (there : Result (List FatEntryView) UnfitFile) (file : List ℕ) : Type 0 where
  pub given : List FatEntry
  pub are_entries : there ≡ Ok (entry_views given)
  pub is_file : IsFileInOrder form given file

-- the entries could be read, but there is no fat file of them
pub record RefusesEntries (form : FatForm) (there : Result (List FatEntryView) UnfitFile) (e : Error) : Type 0 where
  pub given : List FatEntry
  pub are_entries : there ≡ Ok (entry_views given)
  pub has_none : HasNoFileInOrder form given e

-- The fat file created from some files: that of all their entries.
abbrev pub IsCreated : FatForm → List (List ℕ) → List ℕ → Type 0
IsCreated form files file = IsFileOf form (entries_of_files 0 files) file

-- Why none is created: one of the files is refused, or there is no file of all their entries, or memory ran out.
abbrev pub RefusesCreate : FatForm → List (List ℕ) → MakeRefusal → Type 0
RefusesCreate form files (OfFile refusal) = RefusesFiles refusal (entries_of_files 0 files)
RefusesCreate form files (OfAll e) = ErrorMeets (λ f. ⊥) e ⊎ RefusesEntries form (entries_of_files 0 files) e
