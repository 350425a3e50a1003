-- A fat file: a header, followed by a table of records of 20 or 32 bytes (`mach-o/fat.h`).
use Rattle.std.specs.Prelude.{◌==◌, ◌≡◌, ℕ, ◌/◌, ◌<◌, List, [], ◌∷◌, length, drop, codes, nat_le, Bool, true, false, Option, Some, None, Result, Ok, Err}
use Rattle.std.specs.Prelude.{if◌then◌else◌, ◌-◌}
use Rattle.mach_base.specs.Answer.{◌>>=◌}
use Rattle.mach_base.specs.Fault.{Fault, too_short, fault_of}
use Rattle.mach_base.specs.Number.{number, bounded}
use Rattle.mach_base.specs.declared.context.Endian.TheVariants.{Big}
use Rattle.mach_base.specs.declared.error.Error.{Error}
use Rattle.mach_base.specs.Items.{items_from, all_read, read_as}
use Rattle.mach_parts.specs.declared.fat.FatArch.{FatArch}
use Rattle.mach_parts.specs.ArchForms.{ArchForm, arch_form_32, arch_place_in, arch_in}
use Rattle.goblin_mach.specs.declared.fat_file.arches.ArchIterator.{ArchIterator}
use Rattle.goblin_mach.specs.declared.fat_file.table.FatTable.{FatTable}

-- a fat file: its bytes, and the number of entries that its header states
pub record FatFile : Type 0 where
  pub bytes : List ℕ
  pub narches : ℕ

-- the fat file in these bytes, with the count in their header, which has 8 bytes
abbrev pub fat_file_in : List ℕ → Result FatFile Fault
fat_file_in bytes = bounded 8 bytes 0 (record { bytes = bytes; narches = number Big 4 (drop 4 bytes) })

-- the records of all entries, in order, each of a form
abbrev pub archs_in : {R : Type 0} → ArchForm R → FatFile → List (Result R Fault)
archs_in form file = items_from (arch_in form file.bytes) 0 file.narches

-- the records as one list, if the bytes could hold that many of them, or the fault of the first unreadable one
abbrev pub arch_table_in : {R : Type 0} → ArchForm R → FatFile → Result (List R) Fault
arch_table_in form file =
    if nat_le file.narches (length file.bytes / form.stride) then all_read (archs_in form file)
    else Err (too_short file.narches (codes "arches"))

-- the first record of a cpu, or the fault of an unreadable one before it
abbrev pub first_arch_of_cpu : {R : Type 0} → ArchForm R → ℕ → List (Result R Fault) → Result (Option R) Fault
first_arch_of_cpu form cputype [] = Ok None
first_arch_of_cpu form cputype (found ∷ rest) =
    found >>= λ arch. if form.cputype arch == cputype then Ok (Some arch) else first_arch_of_cpu form cputype rest

-- The same for records of 20 bytes: the place of the record of entry i, 8 + 20i; the record, or why it can't be read; all
-- records; all as one list; the first of a cpu.
abbrev pub arch_place : ℕ → ℕ
arch_place i = arch_place_in arch_form_32 i

abbrev pub arch_at : List ℕ → ℕ → Result FatArch Fault
arch_at bytes i = arch_in arch_form_32 bytes i

abbrev pub archs_of : FatFile → List (Result FatArch Fault)
archs_of file = archs_in arch_form_32 file

abbrev pub arches_in : FatFile → Result (List FatArch) Fault
arches_in file = arch_table_in arch_form_32 file

abbrev pub first_of_cpu : ℕ → List (Result FatArch Fault) → Result (Option FatArch) Fault
first_of_cpu cputype archs = first_arch_of_cpu arch_form_32 cputype archs

-- the argument of a test of entry i: its record, or the error of reading it, converted to E
abbrev pub IsAbout : {R E : Type 0} → ArchForm R → (Error → E → Type 0) → List ℕ → ℕ → Result R E → Type 0
IsAbout form Made bytes i (Ok arch) = arch_in form bytes i ≡ Ok arch
IsAbout form Made bytes i (Err made) = (e : Error) × (arch_in form bytes i ≡ Err (fault_of e)) × Made e made

-- entry i was tested, with this result
pub record IsSelected {R E : Type 0} (form : ArchForm R) (Made : Error → E → Type 0) (Answers : Result R E → Bool → Type 0) (bytes : List ℕ) (i : ℕ)
    (answer : Bool) : Type 0 where
  pub about : Result R E
  pub is_about : IsAbout form Made bytes i about
  pub answered : Answers about answer

-- entry i is the first of those below the count whose test was true
pub record IsFirstTaken {R E : Type 0} (form : ArchForm R) (Made : Error → E → Type 0) (Answers : Result R E → Bool → Type 0) (file : FatFile) (i : ℕ)
    : Type 0 where
  pub inside : i < file.narches
  pub taken : IsSelected form Made Answers file.bytes i true
  pub before : (k : ℕ) → k < i → IsSelected form Made Answers file.bytes k false

-- the test was false for each of them
abbrev pub NoneTaken : {R E : Type 0} → ArchForm R → (Error → E → Type 0) → (Result R E → Bool → Type 0) → FatFile → Type 0
NoneTaken form Made Answers file = (k : ℕ) → k < file.narches → IsSelected form Made Answers file.bytes k false

-- the test may be called for each entry below the count
abbrev pub MaySelect : {R E : Type 0} → ArchForm R → (Error → E → Type 0) → (Result R E → Type 0) → FatFile → Type 0
MaySelect {R} {E} form Made May file = (i : ℕ) (about : Result R E) → i < file.narches → IsAbout form Made file.bytes i about → May about

-- the fat file that a container holds
abbrev pub file_view : {R A : Type 0} → FatTable R A → FatFile
file_view m = record { bytes = m.bytes.now; narches = m.narches }

-- what was read, as a record or a fault
abbrev pub arch_read : {R : Type 0} → Result R Error → Result R Fault
arch_read item = read_as (λ arch. arch) item

-- the records that are left
abbrev pub archs_left_in : {R : Type 0} → ArchForm R → ArchIterator R → List (Result R Fault)
archs_left_in form it = items_from (arch_in form it.bytes.now) it.index (it.narches - it.index)

abbrev pub archs_left : ArchIterator FatArch → List (Result FatArch Fault)
archs_left it = archs_left_in arch_form_32 it
