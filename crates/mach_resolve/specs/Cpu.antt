-- What a file has for a cpu: itself, or an entry of its table (`mach-o/fat.h`).
use Rattle.std.specs.Prelude.{◌≡◌, ◌≢◌, ◌==◌, ℕ, Bool, List, [], ◌∷◌, map, Option, option_map, Some, None, Result, Ok, Err, true, if◌then◌else◌}
use Rattle.mach_parts.specs.ArchForms.{ArchForm, arch_form_32, arch_form_64}
use Rattle.mach_base.specs.Answer.{◌>>=◌}
use Rattle.mach_base.specs.Fault.{Fault, bad_magic}
use Rattle.mach_parts.specs.Fat.{part_of}
use Rattle.mach_parts.specs.Header.{IsHeader}
use Rattle.mach_parts.specs.declared.header.Header.{Header}
use Rattle.goblin_mach.specs.Facts.{OfImage}
use Rattle.goblin_mach.specs.FatFile.{FatFile, arch_table_in, archs_in, fat_file_in}
use Rattle.goblin_mach.specs.Image.{Opens}
use Rattle.goblin_mach.specs.File.{HasFatMagic}
use Rattle.mach_parts.specs.FatRecords.{HasFat64Magic}
use Rattle.goblin_mach.specs.Inputs.{InputFault, begins_any_archive}

-- whether an image is selected, by the numbers of its cpu: its type and its subtype
abbrev pub Selection : Type 0
Selection = (cputype cpusubtype : ℕ) → Bool

-- those for a cpu of this number, of any kind
abbrev pub is_numbered : (number cputype cpusubtype : ℕ) → Bool
is_numbered number cputype cpusubtype = cputype == number

-- the bytes are an image for this cpu, which opens
pub record IsOfCpu (bytes : List ℕ) (cputype : ℕ) : Type 0 where
  pub opens : Opens bytes 0
  pub cpu : OfImage bytes 0 (λ ctx cs. (h : Header) × IsHeader ctx bytes 0 h × (h.cputype ≡ cputype))

-- the first record of a selected entry, or the fault of an unreadable one before it
abbrev pub first_arch_for : {R : Type 0} → ArchForm R → Selection → List (Result R Fault) → Result (Option R) Fault
first_arch_for form takes [] = Ok None
first_arch_for form takes (found ∷ rest) =
    found >>= λ arch. if takes (form.cputype arch) (form.cpusubtype arch) then Ok (Some arch) else first_arch_for form takes rest

-- the bytes of an entry, by its record
abbrev pub entry_bytes : {R : Type 0} → ArchForm R → List ℕ → R → List ℕ
entry_bytes form bytes arch = part_of bytes (form.offset arch) (form.size arch)

-- The table of a fat file: the bytes of each entry, in order, or the fault that refuses it; and the bytes of the first selected
-- entry, if it has one, or the fault of a record before that entry.
pub record FatTableView : Type 0 where
  pub entries : Result (List (List ℕ)) Fault
  pub first_for : (takes : Selection) → Result (Option (List ℕ)) Fault

abbrev pub fat_table_view : {R : Type 0} → ArchForm R → List ℕ → FatFile → FatTableView
fat_table_view form bytes file =
    record {
      entries = arch_table_in form file >>= (λ arches. Ok (map (entry_bytes form bytes) arches));
      first_for = λ takes. first_arch_for form takes (archs_in form file) >>= (λ found. Ok (option_map (entry_bytes form bytes) found));
    }

-- the bytes begin as a fat file, of 32 bits or of 64, that has this table
pub data HasTable (bytes : List ℕ) : FatTableView → Type 0 where
  of_32_bits : (file : FatFile) → HasFatMagic bytes → fat_file_in bytes ≡ Ok file → HasTable bytes (fat_table_view arch_form_32 bytes file)
  of_64_bits : (file : FatFile) → HasFat64Magic bytes → fat_file_in bytes ≡ Ok file → HasTable bytes (fat_table_view arch_form_64 bytes file)

-- the bytes of the first selected entry are found in the table, or there is no such entry
pub record FindsEntry (bytes : List ℕ) (takes : Selection) (found : Option (List ℕ)) : Type 0 where
  pub table : FatTableView
  pub has : HasTable bytes table
  pub is_first : table.first_for takes ≡ Ok found

-- What a file has for a cpu: all of it, if it is an image for the cpu; of a fat file the first entry for the cpu; or nothing.
pub data HasFor (bytes : List ℕ) (cputype : ℕ) : Option (List ℕ) → Type 0 where
  image : IsOfCpu bytes cputype → HasFor bytes cputype (Some bytes)
  other_image : (other : ℕ) → IsOfCpu bytes other → other ≢ cputype → HasFor bytes cputype None
  of_table : {found : Option (List ℕ)} → FindsEntry bytes (is_numbered cputype) found → HasFor bytes cputype found

-- a fault of opening a file; an archive is refused, as it has no bindings
pub data FileFault (bytes : List ℕ) : Fault → Type 0 where
  of_input : {f : Fault} → InputFault bytes f → FileFault bytes f
  an_archive : begins_any_archive bytes ≡ true → FileFault bytes (bad_magic 0x213c_6172)

-- a fault of finding what a file has that is selected: of opening the file, or of its table
pub data ForFault (bytes : List ℕ) (takes : Selection) : Fault → Type 0 where
  of_file : {f : Fault} → FileFault bytes f → ForFault bytes takes f
  of_record : {f : Fault} (table : FatTableView) → HasTable bytes table → table.first_for takes ≡ Err f → ForFault bytes takes f
