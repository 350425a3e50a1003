-- The export of a name from an image, as C sees it.
use Rattle.std.specs.Prelude.{◌≡◌, ◌⊎◌, ◌++◌, ℕ, List, [], length, take, drop, min, Option, Some, None, unwrap_or, Bool}
use Rattle.std.specs.Str.{IsUtf8}
use Rattle.mach_base.specs.Fault.{Fault, malformed}
use Rattle.mach_dyld.specs.ExportAddresses.{export_address, export_offset, resolver_address}
use Rattle.mach_dyld.specs.LookUp.{FaultOnWay, IsFirstOf}
use Rattle.mach_dyld.specs.Trie.{Entry, Info, regular, reexport, stub}
use Rattle.mach_dyld.specs.TrieRange.{TrieRange, trie_there}
use Rattle.goblin_mach.specs.Facts.{HasExportOf, HasExports, HasExportsFault, OfImage}
use Rattle.goblin_mach.specs.Subjects.{libs_in, trie_in, trie_or_empty}
use Rattle.goblin_mach_c.specs.Opened.{FaultIn}
use Rattle.goblin_mach_c.specs.declared.find.gm_export.{gm_export}

-- the name of a re-export's library
abbrev pub library_text : Option Info → List ℕ
library_text (Some (reexport lib name flags)) = lib
library_text _ = []

abbrev pub text_or_empty : Option (List ℕ) → List ℕ
text_or_empty None = []
text_or_empty (Some text) = text

-- the name that a re-export has there, if it is another one
abbrev pub target_text : Option Info → List ℕ
target_text (Some (reexport lib name flags)) = text_or_empty name
target_text _ = []

-- its kind: 1 an address, 2 a re-export, 3 a stub with its resolver
abbrev pub export_kind : Info → ℕ
export_kind (regular number flags) = 1
export_kind (reexport lib name flags) = 2
export_kind (stub at resolver flags) = 3

abbrev pub export_flags : Info → ℕ
export_flags (regular number flags) = flags
export_flags (reexport lib name flags) = flags
export_flags (stub at resolver flags) = flags

-- An answer of an image whose first byte has this address. Everything is 0 if there is none, and so are address and offset of a
-- re-export, and the resolver of what is no stub.
abbrev pub export_row : ℕ → Option Info → gm_export
export_row base None = record { address = 0; offset = 0; resolver = 0; flags = 0; library_len = 0; target_len = 0; kind = 0; reserved = 0 }
export_row base (Some info) =
    record {
      address = unwrap_or (export_address base info) 0;
      offset = unwrap_or (export_offset info) 0;
      resolver = unwrap_or (resolver_address base info) 0;
      flags = export_flags info;
      library_len = length (library_text (Some info));
      target_len = length (target_text (Some info));
      kind = export_kind info;
      reserved = 0;
    }

-- a text was written to the start of an array, as much of it as fits, and the rest of the array is unchanged
abbrev pub IsPut : List ℕ → List ℕ → List ℕ → Type 0
IsPut text old new = let n = min (length text) (length old) in new ≡ take n text ++ drop n old

-- The export of a name from the image at o. It is that of the trie's paths, whatever the trie is; and if the exports are a list,
-- it is the first one of that name, or none if no export has the name.
pub record IsFound (bytes : List ℕ) (o : ℕ) (name : List ℕ) (found : Option Info) : Type 0 where
  pub by_paths : HasExportOf bytes o name found
  pub first : (list : List Entry) → HasExports bytes o list → IsFirstOf name list found

-- a fault on the path of a name in a trie
abbrev pub IsOnWayIn : TrieRange → List (List ℕ) → List ℕ → Fault → Type 0
IsOnWayIn t libs name f = FaultOnWay (trie_there t libs) t.from name f

-- the same for the trie of the image at o
abbrev pub HasFaultOnWay : List ℕ → ℕ → List ℕ → Fault → Type 0
HasFaultOnWay bytes o name f = OfImage bytes o (λ ctx cs. IsOnWayIn (trie_or_empty (trie_in bytes cs)) (libs_in bytes cs) name f)

-- a fault of its trie on the path of the name; with it the exports are no list
abbrev pub HasNameFault : List ℕ → ℕ → List ℕ → Fault → Type 0
HasNameFault bytes o name f = HasExportsFault bytes o f × HasFaultOnWay bytes o name f

-- a fault because of which a name can't be looked up
abbrev pub FindFault : Bool → List ℕ → ℕ → List ℕ → Fault → Type 0
FindFault lossy bytes o name f = (FaultIn lossy bytes o f ⊎ HasNameFault bytes o name f) ⊎ ((f ≡ malformed) × ¬ IsUtf8 name)

-- a fault because of which the exports can't be visited
abbrev pub WalkFault : Bool → List ℕ → ℕ → Fault → Type 0
WalkFault lossy bytes o f = FaultIn lossy bytes o f ⊎ HasExportsFault bytes o f
