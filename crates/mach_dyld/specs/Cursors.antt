-- What a cursor's walk of an export trie has returned, as callers see it.
use Rattle.std.specs.Prelude.{◌≡◌, ◌++◌, ◌⊎◌, ◌∷◌, [], ℕ, List, Option, Some, None, Result, Ok, slice_get}
use Rattle.mach_base.specs.Answer.{◌>>=◌}
use Rattle.mach_base.specs.Fault.{Fault, malformed, fault_of}
use Rattle.mach_base.specs.Leb128.{uleb_at}
use Rattle.mach_base.specs.Text.{text_at}
use Rattle.mach_dyld.specs.CursorState.{HasCome, name_met_last}
use Rattle.mach_dyld.specs.Exports.{info_of}
use Rattle.mach_dyld.specs.Nodes as Nodes
use Rattle.mach_dyld.specs.Nodes.{node_at}
use Rattle.mach_dyld.specs.Trie.{Branch, Entry, Info, entry}
use Rattle.mach_dyld.specs.TrieRange.{TrieRange, trie_there, ListsExports, ExportsFault}
use Rattle.mach_dyld.specs.Unfolds.{Unfolds, IsCutBy, IsNextNode}
use Rattle.mach_dyld.specs.declared.trie.cursor.NextExport.{NextExport}
use Rattle.mach_dyld.specs.declared.trie.cursor.NextExport.TheVariants.{Export, End, Refused, NameTooLong, StackTooShort}
use Rattle.mach_dyld.specs.declared.trie.cursor.TrieCursor.{TrieCursor}
use Rattle.mach_dyld.specs.declared.export_info.ExportInfo.{ExportInfo}
use Rattle.mach_dyld.specs.declared.trie.walk.Open.{Open}

-- The cursor walks the trie of this range, with this name and these open nodes, and has returned these exports. They are met
-- first in reading the trie as if it were a tree.
abbrev pub HasGivenTo : TrieRange → List (List ℕ) → TrieCursor → List ℕ → List Open → List Entry → Type 0
HasGivenTo t libs c name stack found = HasCome t libs c name stack found

-- these are all exports met in reading the trie as if it were a tree
abbrev pub AreAllMet : TrieRange → List (List ℕ) → List Entry → Type 0
AreAllMet t libs found = (n : ℕ) × Unfolds (trie_there t libs) t.from n found []

-- These exports are met in reading the trie as if it were a tree, and this fault, which occurs in it, cuts the reading short.
pub record IsCutShort (t : TrieRange) (libs : List (List ℕ)) (found : List Entry) (f : Fault) : Type 0 where
  pub cut : IsCutBy (trie_there t libs) t.from found f
  pub occurs : ExportsFault t libs f

-- What comes after these exports: one more export; the end, if all were met, and then they are the trie's list unless two
-- paths lead to one node; the fault that cuts the reading short; or nothing yet, because the memory is too short.
abbrev pub NextGives : TrieRange → List (List ℕ) → List Entry → NextExport → TrieCursor → List ℕ → List Open → Type 0
NextGives t libs found (Export info) c name stack = HasGivenTo t libs c name stack (found ++ entry (name_met_last c name) (info_of info) ∷ [])
NextGives t libs found (End) c name stack =
    HasGivenTo t libs c name stack found × AreAllMet t libs found × (ListsExports t libs found ⊎ ExportsFault t libs malformed)
NextGives t libs found (Refused e) c name stack = IsCutShort t libs found (fault_of e)
NextGives t libs found (NameTooLong n) c name stack = HasGivenTo t libs c name stack found
NextGives t libs found (StackTooShort) c name stack = HasGivenTo t libs c name stack found

-- ---- the place of an export

-- the node at this start has this own export
abbrev pub IsOwnAt : List ℕ → List (List ℕ) → ℕ → ℕ → Info → Type 0
IsOwnAt bytes libs from start info = (branches : List Branch) × (node_at bytes libs from start ≡ Ok (record { own = Some info; branches = branches }))

-- an export that was returned is that of the node at this start
abbrev pub OccursAt : List ℕ → List (List ℕ) → ℕ → ℕ → Option NextExport → Type 0
OccursAt bytes libs from start None = Unit {0}
OccursAt bytes libs from start (Some (Export info)) = IsOwnAt bytes libs from start (info_of info)
OccursAt bytes libs from start (Some (End)) = Unit {0}
OccursAt bytes libs from start (Some (Refused e)) = Unit {0}
OccursAt bytes libs from start (Some (NameTooLong n)) = Unit {0}
OccursAt bytes libs from start (Some (StackTooShort)) = Unit {0}

-- an export returned after these is that of the next node at this start, and a path of its name leads to the node
abbrev pub IsLedTo : TrieRange → List (List ℕ) → List Entry → NextExport → TrieCursor → List ℕ → Type 0
IsLedTo t libs found given c name =
    (info : ExportInfo) → given ≡ Export info → IsNextNode (trie_there t libs) t.from found (name_met_last c name) c.node

-- the ordinal of the re-export of the node at this start, and the place after it; the export's size and flags come first
abbrev pub place_at : List ℕ → ℕ → Result (ℕ × ℕ) Fault
place_at bytes start = do
  size ← uleb_at bytes start
  flags ← uleb_at bytes size.1
  uleb_at bytes flags.1

-- The library of this ordinal has this name, and the name there is the text at this place. The text is empty if the name is
-- the export's own.
abbrev pub IsReexportAt : List ℕ → List (List ℕ) → List ℕ → Option (List ℕ) → Option (ℕ × ℕ) → Type 0
IsReexportAt bytes libs lib name None = ⊥
IsReexportAt bytes libs lib name (Some found) =
    (slice_get libs found.0 ≡ Some lib) × (text : List ℕ) × (text_at bytes found.1 ≡ Ok text) × (name ≡ Nodes.name_of text)
