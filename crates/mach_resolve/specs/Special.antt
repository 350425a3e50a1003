-- The place of a name that is looked up in any file: flat lookups, and weak ones (dyld).
use Rattle.std.specs.Prelude.{◌≡◌, ◌≢◌, ◌⊎◌, ℕ, List, [], All, take, IsTrue, IsFalse, Some, None, slice_get, bit_and}
use Rattle.mach_dyld.specs.Trie.{Info}
use Rattle.mach_resolve.specs.Files.{File, Says}
use Rattle.mach_resolve.specs.Following.{Met, IsAfterAll}
use Rattle.mach_resolve.specs.Follow.{Symbol, SymbolPlace, found, not_found, no_main, address_of, flags_of_export, is_absolute, HasFirst, NoneHas, LeadsTo}
use Rattle.mach_resolve.specs.Follow.{FollowsTo}

-- A name is looked up in all files: in the closure of the program, in that of the first library, and so on, each file once.
pub data IsFlat (files : List File) (name : List ℕ) : SymbolPlace → Type 0 where
  nowhere : (all : Met) → IsAfterAll files all → NoneHas files name all.places → IsFlat files name not_found
  at : (all : Met) (g : File) (info : Info) (address : ℕ) → IsAfterAll files all → HasFirst files name all.places g info
      → address_of info ≡ Some address → IsFlat files name (found g.number g.name address (is_absolute info))
  further : (all : Met) (g : File) (info : Info) (t : Symbol) (p : SymbolPlace) → IsAfterAll files all → HasFirst files name all.places g info
      → LeadsTo info name t → FollowsTo files [] t p → IsFlat files name p

-- the own trie of a file defines a name: it has the name with an address, not as a re-export
pub record Defines (f : File) (name : List ℕ) (info : Info) (address : ℕ) : Type 0 where
  pub says : Says f name (Some info)
  pub is_address : address_of info ≡ Some address

-- the file doesn't define it: its trie lacks the name, or re-exports it
abbrev pub DefinesNot : File → List ℕ → Type 0
DefinesNot f name = Says f name None ⊎ ((info : Info) × Says f name (Some info) × (address_of info ≡ None))

-- a definition is weak (EXPORT_SYMBOL_FLAGS_WEAK_DEFINITION)
abbrev pub IsWeakDefinition : Info → Type 0
IsWeakDefinition info = bit_and (flags_of_export info) 4 ≢ 0

-- the file has no definition, or a weak one
abbrev pub NotStrong : List ℕ → File → Type 0
NotStrong name f = DefinesNot f name ⊎ ((info : Info) × (address : ℕ) × Defines f name info address × IsWeakDefinition info)

-- file i has this definition of the name, and this holds of those before it
pub record DefinesFirst (files : List File) (name : List ℕ) (Before : File → Type 0) (i : ℕ) (g : File) (info : Info) (address : ℕ) : Type 0 where
  pub listed : slice_get files i ≡ Some g
  pub defines : Defines g name info address
  pub before : All Before (take i files)

-- The first definition that isn't weak, in the order of the files; if there is none, the first definition.
pub data IsWeakLookup (files : List File) (name : List ℕ) : SymbolPlace → Type 0 where
  strong : (i : ℕ) (g : File) (info : Info) (address : ℕ) → DefinesFirst files name (NotStrong name) i g info address → (IsWeakDefinition info → ⊥)
      → IsWeakLookup files name (found g.number g.name address (is_absolute info))
  weak : (i : ℕ) (g : File) (info : Info) (address : ℕ) → DefinesFirst files name (λ f. DefinesNot f name) i g info address
      → All (NotStrong name) files → IsWeakLookup files name (found g.number g.name address (is_absolute info))
  nowhere : All (λ f. DefinesNot f name) files → IsWeakLookup files name not_found

-- the first file that is a main executable
pub record IsFirstMain (files : List File) (i : ℕ) (g : File) : Type 0 where
  pub listed : slice_get files i ≡ Some g
  pub is_main : IsTrue g.is_main
  pub before : All (λ f. IsFalse f.is_main) (take i files)

-- A name is looked up in the main executable.
pub data IsInMain (files : List File) (name : List ℕ) : SymbolPlace → Type 0 where
  none : All (λ f. IsFalse f.is_main) files → IsInMain files name no_main
  first : (i : ℕ) (g : File) (p : SymbolPlace) → IsFirstMain files i g → FollowsTo files [] (record { library = g.name; name = name }) p
      → IsInMain files name p
