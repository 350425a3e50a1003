-- The files that are searched for names, and what the own trie of each has for a name (dyld).
use Rattle.std.specs.Prelude.{◌≡◌, ℕ, Bool, List, Option, Some, None, slice_get, bytes_eq, position}
use Rattle.mach_base.specs.Fault.{Fault}
use Rattle.mach_dyld.specs.Trie.{Info}
use Rattle.mach_dyld.specs.TrieRange.{TrieRange}
use Rattle.goblin_mach.specs.LookUp.{IsAnswerInImage}
use Rattle.goblin_mach.specs.Subjects.{ImageExportsFault}

-- A file: its number among the given files, 0 for the program; its name; whether it is a main executable; the libraries that it
-- re-exports as a whole, in order; and its trie, with its libraries.
pub record File : Type 0 where
  pub number : ℕ
  pub name : List ℕ
  pub is_main : Bool
  pub reexports : List (List ℕ)
  pub trie : Option TrieRange
  pub libs : List (List ℕ)

-- the place of the first file whose whole name is this
abbrev pub place_of_file : List File → List ℕ → Option ℕ
place_of_file files name = position (λ f. bytes_eq name f.name) files

-- What the own trie of a file has for a name: its export, or nothing.
abbrev pub Says : File → List ℕ → Option Info → Type 0
Says f name found = IsAnswerInImage f.trie f.libs name found

-- the own trie of the file at this place doesn't have the name
abbrev pub Lacks : List File → List ℕ → ℕ → Type 0
Lacks files name i = (f : File) → slice_get files i ≡ Some f → Says f name None

-- a fault of the trie of the file that was given with this number
abbrev pub TrieFaultAt : List File → ℕ → Fault → Type 0
TrieFaultAt files number f = (i : ℕ) × (g : File) × (slice_get files i ≡ Some g) × (g.number ≡ number) × ImageExportsFault g.trie g.libs f
