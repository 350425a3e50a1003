-- The entries of a fat file: archives and images (`mach-o/fat.h`, `ar.h`).
use Rattle.std.specs.Prelude.{◌≡◌, ℕ, List, length, take, nat_le, nat_lt, Result, Ok, Err, IfOk, IfErr, if◌then◌else◌, ◌-◌, [], ◌∷◌, Option, MatchOption}
use Rattle.mach_base.specs.Answer.{◌>>=◌, ErrorMeets, IsOkUnlessMemory}
use Rattle.mach_base.specs.Fault.{Fault, malformed}
use Rattle.mach_base.specs.declared.error.Error.{Error}
use Rattle.mach_base.specs.declared.hint.Hint.TheVariants as hints
use Rattle.mach_base.specs.declared.hint.Hint.{Hint}
use Rattle.mach_parts.specs.Fat.{part_of}
use Rattle.mach_base.specs.Items.{items_from}
use Rattle.mach_parts.specs.declared.fat.FatArch.{FatArch}
use Rattle.mach_parts.specs.ArchForms.{ArchForm, arch_form_32, arch_in}
use Rattle.goblin_mach.specs.FatFile.{FatFile, file_view}
use Rattle.goblin_mach.specs.Image.{Opens, ImageFault}
use Rattle.mach_parts.specs.Magic.{hint_in}
use Rattle.goblin_mach.specs.OpenImage.{IsImage}
use Rattle.goblin_mach.specs.declared.fat_file.entry.SingleArch.TheVariants.{MachO, Archive}
use Rattle.goblin_mach.specs.declared.fat_file.entry.SingleArch.{SingleArch}
use Rattle.goblin_mach.specs.declared.fat_file.table.EntryIterator.{EntryIterator}

-- an entry: the bytes of an archive, or the bytes at whose start an image should open
pub data FatEntry : Type 0 where
  archive : List ℕ → FatEntry
  image : List ℕ → FatEntry

abbrev pub entry_by : Hint → List ℕ → Result FatEntry Fault
entry_by hints.Archive slice = Ok (archive slice)
entry_by (hints.Mach said) slice = Ok (image slice)
entry_by (hints.MachFat count) slice = Err malformed
entry_by (hints.Unknown n) slice = Err malformed

-- the kind of an entry, by the hint in the first 16 of its bytes; fewer bytes are no entry
abbrev pub fat_entry_of : List ℕ → Result FatEntry Fault
fat_entry_of slice = if nat_le 16 (length slice) then entry_by (hint_in (take 16 slice)) slice else Err malformed

-- Entry i of a fat file, whose records are of a form: i is below the count, its record can be read, and its slice is an
-- archive or begins like an image.
abbrev pub arch_entry_in : {R : Type 0} → ArchForm R → FatFile → ℕ → Result FatEntry Fault
arch_entry_in form file i =
    if nat_lt i file.narches then (arch_in form file.bytes i >>= λ arch. fat_entry_of (part_of file.bytes (form.offset arch) (form.size arch)))
    else Err malformed

-- all entries, in order
abbrev pub entries_in : {R : Type 0} → ArchForm R → FatFile → List (Result FatEntry Fault)
entries_in form file = items_from (arch_entry_in form file) 0 file.narches

-- the same of records of 20 bytes
abbrev pub entry_at : FatFile → ℕ → Result FatEntry Fault
entry_at file i = arch_entry_in arch_form_32 file i

abbrev pub entries_of : FatFile → List (Result FatEntry Fault)
entries_of file = entries_in arch_form_32 file

-- an entry that was opened: an archive's bytes, or the image that opens strictly at 0 of its bytes
abbrev pub IsEntry : {A : Type 0} → FatEntry → SingleArch A → Type 0
IsEntry (archive slice) (Archive bytes) = bytes.now ≡ slice
IsEntry (archive slice) (MachO m) = ⊥
IsEntry (image slice) (Archive bytes) = ⊥
IsEntry (image slice) (MachO m) = IsImage slice 0 m

-- an archive always opens
abbrev pub EntryOpens : Result FatEntry Fault → Type 0
EntryOpens (Ok (archive slice)) = Unit {0}
EntryOpens (Ok (image slice)) = Opens slice 0
EntryOpens (Err f) = ⊥

pub data FatEntryFault : Result FatEntry Fault → Fault → Type 0 where
  no_entry : (f : Fault) → FatEntryFault (Err f) f
  no_image : (slice : List ℕ) (f : Fault) → ImageFault slice 0 f → FatEntryFault (Ok (image slice)) f

-- How a result relates to an entry. It is the entry as it opens. It is Ok if the entry opens, unless memory runs out. Each
-- error is a fault in the entry.
pub record OpensEntry {A : Type 0} (entry : Result FatEntry Fault) (answer : Result (SingleArch A) Error) : Type 0 where
  pub opened : IfOk answer (λ x. (e : FatEntry) × (entry ≡ Ok e) × IsEntry e x)
  pub only : EntryOpens entry → IsOkUnlessMemory answer
  pub refused : IfErr answer (ErrorMeets (FatEntryFault entry))

-- the entries that are left
abbrev pub entries_left_in : {R A : Type 0} → ArchForm R → EntryIterator R A → List (Result FatEntry Fault)
entries_left_in form it = items_from (arch_entry_in form (file_view it.file.now)) it.index (it.file.now.narches - it.index)

abbrev pub entries_left : {A : Type 0} → EntryIterator FatArch A → List (Result FatEntry Fault)
entries_left it = entries_left_in arch_form_32 it

-- the result is the first of the entries that were left, as it opens, and the others are left now
abbrev pub GivesEntry : {R A : Type 0} → ArchForm R → EntryIterator R A → Option (Result (SingleArch A) Error) → EntryIterator R A → Type 0
GivesEntry form it item after =
    MatchOption item ((entries_left_in form it ≡ []) × (entries_left_in form after ≡ []))
    (λ answer. (entry : Result FatEntry Fault) × (entries_left_in form it ≡ entry ∷ entries_left_in form after) × OpensEntry entry answer)
