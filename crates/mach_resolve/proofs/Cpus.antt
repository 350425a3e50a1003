-- What files have for a cpu.
use Rattle.std.proofs.Common.{◌≡◌, ◌∙◌, ℕ, List, [], ◌∷◌, Option, Some, None, Result, Ok, Err, true, map, refl, sym, ap, subst}
use Rattle.std.specs.Prelude.{◌==◌, option_map, if◌then◌else◌}
use Rattle.mach_parts.specs.ArchForms.{ArchForm, arch_form_32, arch_form_64}
use Rattle.mach_parts.specs.declared.fat64.FatArch64.{FatArch64}
use Rattle.mach_base.proofs.Faults.{ErrorMeets-in, ErrorMeets-reported}
use Rattle.mach_base.specs.Answer.{◌>>=◌, ErrorMeets}
use Rattle.mach_base.specs.Fault.{Fault, fault_of}
use Rattle.mach_base.specs.declared.error.Error.{Error}
use Rattle.mach_base.specs.declared.error.Error.TheVariants.{BadMagic}
use Rattle.mach_parts.specs.declared.fat.FatArch.{FatArch}
use Rattle.goblin_mach.specs.Inputs.{InputFault, IsInput, begins_any_archive}
use Rattle.goblin_mach.specs.declared.input.Input.TheVariants.{Fat, Fat64}
use Rattle.goblin_mach.specs.FatFile.{arch_table_in, archs_in, file_view, first_arch_of_cpu}
use Rattle.goblin_mach.specs.OpenImage.{IsImage, commands_view}
use Rattle.goblin_mach.specs.declared.fat_file.table.FatTable.{FatTable}
use Rattle.goblin_mach.specs.declared.macho.MachO.{MachO}
use Rattle.mach_resolve.specs.Cpu.{FileFault, FindsEntry, ForFault, HasFor, HasTable, IsOfCpu, Selection, an_archive, entry_bytes, image, of_32_bits}
use Rattle.mach_resolve.specs.Cpu.{first_arch_for, is_numbered, of_64_bits, of_file, of_input, of_record, of_table, other_image, fat_table_view}
use Rattle.mach_resolve.specs.Files.{File}
use Rattle.mach_resolve.specs.Given.{GivenFile, IsFile, IsLibrary, NumberedFault, OpenFault, LibraryFault, unfound, of_image}

-- an image that was opened is one of its header's cpu
pub of_cpu : {A : Type 0} (bytes : List ℕ) (m : MachO A) → IsImage bytes 0 m → IsOfCpu bytes m.header.cputype
of_cpu bytes m is = record {
  opens = (is.ctx, commands_view m, is.opens);
  cpu = record { ctx = is.ctx; cs = commands_view m; opens = is.opens.lossy; holds = (m.header, is.fields.header, refl) };
}

-- a table's contents, by what is read of its records
pub table_entries : {R A : Type 0} (form : ArchForm R) (bytes : List ℕ) (m : FatTable R A) (there : Result (List R) Fault)
    → arch_table_in form (file_view m) ≡ there
    → (fat_table_view form bytes (file_view m)).entries ≡ (there >>= (λ arches. Ok (map (entry_bytes form bytes) arches)))
table_entries {R} form bytes m there is = ap (λ (r : Result (List R) Fault). r >>= (λ arches. Ok (map (entry_bytes form bytes) arches))) is

pub table_first : {R A : Type 0} (form : ArchForm R) (bytes : List ℕ) (m : FatTable R A) (takes : Selection) (there : Result (Option R) Fault)
    → first_arch_for form takes (archs_in form (file_view m)) ≡ there
    → (fat_table_view form bytes (file_view m)).first_for takes ≡ (there >>= (λ found. Ok (option_map (entry_bytes form bytes) found)))
table_first {R} form bytes m cpu there is = ap (λ (r : Result (Option R) Fault). r >>= (λ found. Ok (option_map (entry_bytes form bytes) found))) is

-- an entry was found in a table, or none
pub finds : {R A : Type 0} (form : ArchForm R) (bytes : List ℕ) (m : FatTable R A) (takes : Selection) (found : Option R)
    → HasTable bytes (fat_table_view form bytes (file_view m)) → first_arch_for form takes (archs_in form (file_view m)) ≡ Ok found
    → FindsEntry bytes takes (option_map (entry_bytes form bytes) found)
finds form bytes m takes found has is =
    record { table = fat_table_view form bytes (file_view m); has = has; is_first = table_first form bytes m takes (Ok found) is }

-- the first record of a cpu is the first that is selected by its number
first_numbered : {R : Type 0} (form : ArchForm R) (cputype : ℕ) (archs : List (Result R Fault))
    → first_arch_for form (is_numbered cputype) archs ≡ first_arch_of_cpu form cputype archs
first_numbered form cputype [] = refl
first_numbered form cputype (Err f ∷ rest) = refl
first_numbered {R} form cputype (Ok arch ∷ rest) =
    ap (λ (r : Result (Option R) Fault). if form.cputype arch == cputype then Ok (Some arch) else r) (first_numbered form cputype rest)

pub finds_numbered : {R A : Type 0} (form : ArchForm R) (bytes : List ℕ) (m : FatTable R A) (cputype : ℕ) (found : Option R)
    → HasTable bytes (fat_table_view form bytes (file_view m)) → first_arch_of_cpu form cputype (archs_in form (file_view m)) ≡ Ok found
    → FindsEntry bytes (is_numbered cputype) (option_map (entry_bytes form bytes) found)
finds_numbered form bytes m cputype found has is =
    finds form bytes m (is_numbered cputype) found has (first_numbered form cputype (archs_in form (file_view m)) ∙ is)

has_entry : (bytes slice entry : List ℕ) (cputype : ℕ) → FindsEntry bytes (is_numbered cputype) (Some entry) → slice ≡ entry → HasFor bytes cputype (Some slice)
has_entry bytes slice entry cputype found is = subst (λ (b : List ℕ). HasFor bytes cputype (Some b)) (sym is) (of_table found)

-- the first entry for a cpu, opened
pub entry_library : (cputype number : ℕ) (g : GivenFile) (slice entry : List ℕ) (f : File) → FindsEntry g.bytes (is_numbered cputype) (Some entry)
    → slice ≡ entry → IsFile number (record { path = g.path; bytes = slice }) f → IsLibrary cputype number g f
entry_library cputype number g slice entry f found is opened =
    record { bytes = slice; has = has_entry g.bytes slice entry cputype found is; is_file = opened }

-- a fault of the first entry for a cpu is one of the library
pub entry_fault : (cputype number : ℕ) (g : GivenFile) (slice entry : List ℕ) → FindsEntry g.bytes (is_numbered cputype) (Some entry)
    → slice ≡ entry → (n : ℕ) (f : Fault) → OpenFault number (record { path = g.path; bytes = slice }) n f
    → NumberedFault number (LibraryFault cputype g) n f
entry_fault cputype number g slice entry found is n f occurs = (occurs.0, of_image slice (has_entry g.bytes slice entry cputype found is) occurs.1)

-- a fault that refuses a search in a table holds
pub search_fault : {R A : Type 0} (form : ArchForm R) (bytes : List ℕ) (m : FatTable R A) (takes : Selection) (e : Error)
    → HasTable bytes (fat_table_view form bytes (file_view m)) → first_arch_for form takes (archs_in form (file_view m)) ≡ Err (fault_of e)
    → ErrorMeets (ForFault bytes takes) e
search_fault form bytes m takes e has is =
    ErrorMeets-reported (ForFault bytes takes) e
    (of_record (fat_table_view form bytes (file_view m)) has (table_first form bytes m takes (Err (fault_of e)) is))

pub numbered_fault : {R A : Type 0} (form : ArchForm R) (bytes : List ℕ) (m : FatTable R A) (cputype : ℕ) (e : Error)
    → HasTable bytes (fat_table_view form bytes (file_view m)) → first_arch_of_cpu form cputype (archs_in form (file_view m)) ≡ Err (fault_of e)
    → ErrorMeets (ForFault bytes (is_numbered cputype)) e
numbered_fault form bytes m cputype e has is =
    search_fault form bytes m (is_numbered cputype) e has (first_numbered form cputype (archs_in form (file_view m)) ∙ is)

-- a fault of a file is one of the library
pub library_fault : (cputype number : ℕ) (g : GivenFile) (e : Error) → ErrorMeets (ForFault g.bytes (is_numbered cputype)) e
    → ErrorMeets (NumberedFault number (LibraryFault cputype g) number) e
library_fault cputype number g e occurs =
    ErrorMeets-in (ForFault g.bytes (is_numbered cputype)) (NumberedFault number (LibraryFault cputype g) number) e (λ f s. (refl, unfound s)) occurs

-- a file that opened as a fat file has its table
pub narrow_table : {A : Type 0} (bytes : List ℕ) (m : FatTable FatArch A) → IsInput bytes (Fat m)
    → HasTable bytes (fat_table_view arch_form_32 bytes (file_view m))
narrow_table bytes m is = of_32_bits (file_view m) is.1.magic is.1.file

pub wide_table : {A : Type 0} (bytes : List ℕ) (m : FatTable FatArch64 A) → IsInput bytes (Fat64 m)
    → HasTable bytes (fat_table_view arch_form_64 bytes (file_view m))
wide_table bytes m is = of_64_bits (file_view m) is.1 is.2

-- the fault of a file that doesn't open holds, and that of an archive
pub input_fault : (bytes : List ℕ) (e : Error) → ErrorMeets (InputFault bytes) e → ErrorMeets (FileFault bytes) e
input_fault bytes e occurs = ErrorMeets-in (InputFault bytes) (FileFault bytes) e (λ f s. of_input s) occurs

pub archive_fault : (bytes : List ℕ) (e : Error) → begins_any_archive bytes ≡ true → e ≡ BadMagic 0x213c_6172 → ErrorMeets (FileFault bytes) e
archive_fault bytes e begins is = subst (ErrorMeets (FileFault bytes)) (sym is) (an_archive begins)

pub file_fault : (takes : Selection) (bytes : List ℕ) (e : Error) → ErrorMeets (FileFault bytes) e → ErrorMeets (ForFault bytes takes) e
file_fault takes bytes e occurs = ErrorMeets-in (FileFault bytes) (ForFault bytes takes) e (λ f s. of_file s) occurs

-- an image for the cpu
pub image_library : {A : Type 0} (cputype number : ℕ) (g : GivenFile) (m : MachO A) (f : File) → IsImage g.bytes 0 m → m.header.cputype ≡ cputype
    → IsFile number g f → IsLibrary cputype number g f
image_library cputype number g m f is same opened =
    record { bytes = g.bytes; has = subst (λ (c : ℕ). HasFor g.bytes c (Some g.bytes)) same (image (of_cpu g.bytes m is)); is_file = opened }

-- an image for another cpu
pub other_library : {A : Type 0} (cputype : ℕ) (bytes : List ℕ) (m : MachO A) → IsImage bytes 0 m → (m.header.cputype ≡ cputype → ⊥) → HasFor bytes cputype None
other_library cputype bytes m is other = other_image m.header.cputype (of_cpu bytes m is) other
