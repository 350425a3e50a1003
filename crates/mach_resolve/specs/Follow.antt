-- The place of a name that is looked up in a library: in its own trie, in those of its closure, and through the re-exports of
-- tries (dyld).
use Rattle.std.specs.Prelude.{◌≡◌, ◌==◌, ℕ, Bool, List, [], ◌∷◌, ◌++◌, All, take, Option, Some, None, unwrap_or, slice_get, bit_and}
use Rattle.mach_base.specs.Among.{IsAmong}
use Rattle.mach_dyld.specs.Trie.{Info, regular, reexport, stub}
use Rattle.mach_resolve.specs.Files.{File, place_of_file, Says, Lacks}
use Rattle.mach_resolve.specs.Following.{Edge, Met, IsAfter}

-- a name, and the name of the library in which it is looked up
pub record Symbol : Type 0 where
  pub library : List ℕ
  pub name : List ℕ

-- the place of a name, or why it has none
pub data SymbolPlace : Type 0 where
  found : (number : ℕ) (file : List ℕ) (address : ℕ) (is_absolute : Bool) → SymbolPlace
  leads_back : (library : List ℕ) → SymbolPlace
  no_library : (library : List ℕ) → SymbolPlace
  missing : (library : List ℕ) → SymbolPlace
  not_given : (library reexported : List ℕ) → SymbolPlace
  not_found : SymbolPlace
  no_main : SymbolPlace

-- the address of an export: that of a stub, even if it has a resolver; a re-export has none
abbrev pub address_of : Info → Option ℕ
address_of (regular address flags) = Some address
address_of (reexport lib name flags) = None
address_of (stub stub_offset resolver_offset flags) = Some stub_offset.number

abbrev pub flags_of_export : Info → ℕ
flags_of_export (regular address flags) = flags
flags_of_export (reexport lib name flags) = flags
flags_of_export (stub stub_offset resolver_offset flags) = flags

-- the kind of the export says that its address is absolute (EXPORT_SYMBOL_FLAGS_KIND_ABSOLUTE)
abbrev pub is_absolute : Info → Bool
is_absolute info = bit_and (flags_of_export info) 3 == 2

-- of the files at these places, the first whose own trie has the name is g, with this export
pub record HasFirst (files : List File) (name : List ℕ) (places : List ℕ) (g : File) (info : Info) : Type 0 where
  pub index : ℕ
  pub place : ℕ
  pub listed : slice_get places index ≡ Some place
  pub file : slice_get files place ≡ Some g
  pub says : Says g name (Some info)
  pub before : All (Lacks files name) (take index places)

-- no file at these places has the name
abbrev pub NoneHas : List File → List ℕ → List ℕ → Type 0
NoneHas files name places = All (Lacks files name) places

-- the library of a symbol is given, and this is its closure
pub record IsGiven (files : List File) (s : Symbol) (following : Met) : Type 0 where
  pub place : ℕ
  pub is_place : place_of_file files s.library ≡ Some place
  pub is_after : IsAfter files s.library following

-- the symbol that a re-export leads to: in the library that it names, by the name that it gives, or by its own name if it gives
-- none
abbrev pub LeadsTo : Info → List ℕ → Symbol → Type 0
LeadsTo info name t = (given : Option (List ℕ)) × (flags : ℕ) × (info ≡ reexport t.library given flags) × (t.name ≡ unwrap_or given name)

-- a symbol leads to another: the first file in the closure of its library whose own trie has the name re-exports it
abbrev pub IsReexport : List File → Symbol → Symbol → Type 0
IsReexport files s t = (following : Met) × IsGiven files s following × (g : File) × (info : Info) × HasFirst files s.name following.places g info
    × LeadsTo info s.name t

-- no file in the closure of a library has the name: it is missing, unless one of them re-exports a library that is not given
abbrev pub nowhere : List ℕ → Option Edge → SymbolPlace
nowhere library None = missing library
nowhere library (Some gap) = not_given gap.from gap.to

-- A symbol leads no further.
pub data IsEnd (files : List File) (s : Symbol) : SymbolPlace → Type 0 where
  absent : place_of_file files s.library ≡ None → IsEnd files s (no_library s.library)
  at : (following : Met) (g : File) (info : Info) (address : ℕ) → IsGiven files s following → HasFirst files s.name following.places g info
      → address_of info ≡ Some address → IsEnd files s (found g.number g.name address (is_absolute info))
  unlisted : (following : Met) → IsGiven files s following → NoneHas files s.name following.places → IsEnd files s (nowhere s.library following.gap)

-- The place that a symbol leads to, after those that were met on the way: back, if it is one of them; or its end; or the place of
-- the symbol that it re-exports.
pub data FollowsTo (files : List File) : List Symbol → Symbol → SymbolPlace → Type 0 where
  back : {met : List Symbol} {s : Symbol} → IsAmong s met → FollowsTo files met s (leads_back s.library)
  ends : {met : List Symbol} {s : Symbol} {p : SymbolPlace} → (IsAmong s met → ⊥) → IsEnd files s p → FollowsTo files met s p
  further : {met : List Symbol} {s : Symbol} {p : SymbolPlace} (t : Symbol) → (IsAmong s met → ⊥) → IsReexport files s t → FollowsTo files (met ++ s ∷ []) t p
      → FollowsTo files met s p
