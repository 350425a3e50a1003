-- The given files, and what the bytes of each hold.
use Rattle.std.specs.Prelude.{◌≡◌, ◌==◌, ◌+◌, ℕ, Bool, true, false, List, [], ◌∷◌, ◌++◌, map, Some, None, unwrap_or, slice_get, bytes_eq, if◌then◌else◌}
use Rattle.std.specs.List.{list_any}
use Rattle.mach_base.specs.Fault.{Fault}
use Rattle.mach_parts.specs.Header.{IsHeader}
use Rattle.mach_parts.specs.declared.header.Header.{Header}
use Rattle.goblin_mach.specs.Facts.{OfImage}
use Rattle.goblin_mach.specs.Image.{Opens, ImageFault}
use Rattle.goblin_mach.specs.Libraries.{LibraryView, libraries_in}
use Rattle.goblin_mach.specs.Subjects.{own_name_in, trie_in, libs_in}
use Rattle.mach_resolve.specs.Files.{File}
use Rattle.mach_resolve.specs.Note.{Note, given_before, nothing_for}
use Rattle.mach_resolve.specs.Cpu.{IsOfCpu, HasFor, ForFault, is_numbered}

-- a file as it was given: its path, and its bytes
pub record GivenFile : Type 0 where
  pub path : List ℕ
  pub bytes : List ℕ

-- the names of the libraries that are re-exported as a whole, in order
abbrev pub reexported : List LibraryView → List (List ℕ)
reexported [] = []
reexported (l ∷ ls) = if l.attributes.is_reexport then l.name ∷ reexported ls else reexported ls

-- by ordinal, the image itself first, whether a library may be absent
abbrev pub may_be_absent : List LibraryView → List Bool
may_be_absent ls = false ∷ map (λ l. l.attributes.is_weak) ls

-- The file with this number is the image at 0 of these bytes, which opens. Its name is the image's own name, or its path if the
-- image has none.
pub record IsFile (number : ℕ) (g : GivenFile) (f : File) : Type 0 where
  pub opens : Opens g.bytes 0
  pub number_is : f.number ≡ number
  pub name : OfImage g.bytes 0 (λ ctx cs. f.name ≡ unwrap_or (own_name_in g.bytes cs) g.path)
  pub main : OfImage g.bytes 0 (λ ctx cs. (h : Header) × IsHeader ctx g.bytes 0 h × (f.is_main ≡ (h.filetype == 2)))
  pub reexports : OfImage g.bytes 0 (λ ctx cs. f.reexports ≡ reexported (libraries_in ctx.le g.bytes cs))
  pub trie : OfImage g.bytes 0 (λ ctx cs. (f.trie ≡ trie_in g.bytes cs) × (f.libs ≡ libs_in g.bytes cs))

-- whether one of these files has this name
abbrev pub is_named : List File → List ℕ → Bool
is_named files name = list_any (λ f. bytes_eq name f.name) files

-- the files that are used, and notes about the others
pub record Gathered : Type 0 where
  pub files : List File
  pub notes : List Note

abbrev pub with_note : Gathered → Note → Gathered
with_note x n = record { files = x.files; notes = x.notes ++ n ∷ [] }

-- a file is used unless one with its name was added before
pub data Adds (x : Gathered) (f : File) : Gathered → Type 0 where
  again : is_named x.files f.name ≡ true → Adds x f (with_note x (given_before f.number f.name))
  counts : is_named x.files f.name ≡ false → Adds x f (record { files = x.files ++ f ∷ []; notes = x.notes })

-- the file of a library for a cpu
pub record IsLibrary (cputype number : ℕ) (g : GivenFile) (f : File) : Type 0 where
  pub bytes : List ℕ
  pub has : HasFor g.bytes cputype (Some bytes)
  pub is_file : IsFile number (record { path = g.path; bytes = bytes }) f

-- what a library has for a cpu is added; if it has nothing, that is noted
pub data AddsLibrary (cputype number : ℕ) (g : GivenFile) (x : Gathered) : Gathered → Type 0 where
  library : (f : File) (more : Gathered) → IsLibrary cputype number g f → Adds x f more → AddsLibrary cputype number g x more
  passed : HasFor g.bytes cputype None → AddsLibrary cputype number g x (with_note x (nothing_for number cputype))

-- The given libraries, numbered from this number on, are added one after the other.
pub data Gathers (cputype : ℕ) : ℕ → List GivenFile → Gathered → Gathered → Type 0 where
  done : {n : ℕ} {x : Gathered} → Gathers cputype n [] x x
  next : {n : ℕ} {g : GivenFile} {gs : List GivenFile} {x all : Gathered} (more : Gathered) → AddsLibrary cputype n g x more
      → Gathers cputype (n + 1) gs more all → Gathers cputype n (g ∷ gs) x all

-- one file alone
abbrev pub only : File → Gathered
only f = record { files = f ∷ []; notes = [] }

-- the program, which is file 0, and the libraries after it, for a cpu
abbrev pub GathersFor : ℕ → GivenFile → List GivenFile → Gathered → Type 0
GathersFor cputype program libraries all = (own : File) × IsFile 0 program own × Gathers cputype 1 libraries (only own) all

-- the same, for the program's cpu
abbrev pub GathersAll : GivenFile → List GivenFile → Gathered → Type 0
GathersAll program libraries all = (cputype : ℕ) × IsOfCpu program.bytes cputype × GathersFor cputype program libraries all

-- a fault is one of this file, by its number
abbrev pub NumberedFault : ℕ → (Fault → Type 0) → ℕ → Fault → Type 0
NumberedFault number IsFault n f = (n ≡ number) × IsFault f

-- a fault of opening this file, with this number
abbrev pub OpenFault : ℕ → GivenFile → ℕ → Fault → Type 0
OpenFault number g = NumberedFault number (ImageFault g.bytes 0)

-- a fault of opening a library for a cpu: of finding its bytes for the cpu, or of the image in them
pub data LibraryFault (cputype : ℕ) (g : GivenFile) : Fault → Type 0 where
  unfound : {f : Fault} → ForFault g.bytes (is_numbered cputype) f → LibraryFault cputype g f
  of_image : {f : Fault} (bytes : List ℕ) → HasFor g.bytes cputype (Some bytes) → ImageFault bytes 0 f → LibraryFault cputype g f

-- a fault of opening the file with this number: the program, or a library for a cpu
pub data FaultFor (cputype : ℕ) (program : GivenFile) (libraries : List GivenFile) : ℕ → Fault → Type 0 where
  of_program : {f : Fault} → ImageFault program.bytes 0 f → FaultFor cputype program libraries 0 f
  of_library : {f : Fault} (index : ℕ) (g : GivenFile) → slice_get libraries index ≡ Some g → LibraryFault cputype g f
      → FaultFor cputype program libraries (index + 1) f

-- the same, for the program's cpu; a program that doesn't open has none
pub data GivenFault (program : GivenFile) (libraries : List GivenFile) (n : ℕ) (f : Fault) : Type 0 where
  unopened : n ≡ 0 → ImageFault program.bytes 0 f → GivenFault program libraries n f
  opened : (cputype : ℕ) → IsOfCpu program.bytes cputype → FaultFor cputype program libraries n f → GivenFault program libraries n f
