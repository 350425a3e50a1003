-- The exports of an image in batches, as C sees them.
use Rattle.std.specs.Prelude.{◌≡◌, ◌≢◌, ◌==◌, ◌+◌, ◌-◌, ◌^◌, ◌++◌, ◌⊎◌, ℕ, List, [], ◌∷◌, length, drop, min, Option, Some, None, Result, Ok, Err, nat_lt}
use Rattle.std.specs.Prelude.{slice_get, if◌then◌else◌}
use Rattle.mach_base.specs.Fault.{Fault, fault_of, malformed}
use Rattle.mach_base.specs.Text.{text_at}
use Rattle.mach_dyld.specs.CursorState.{IsNextLabel}
use Rattle.mach_dyld.specs.Cursors.{HasGivenTo, NextGives, AreAllMet, IsCutShort, IsOwnAt, place_at}
use Rattle.mach_dyld.specs.Trie.{Entry, Info, regular, reexport, stub}
use Rattle.mach_dyld.specs.TrieRange.{ListsExports, ExportsFault, TrieRange, trie_there}
use Rattle.mach_dyld.specs.Unfolds.{IsNextNode}
use Rattle.mach_dyld.specs.declared.trie.cursor.NextExport.{NextExport}
use Rattle.mach_dyld.specs.declared.trie.cursor.NextExport.TheVariants as next
use Rattle.mach_dyld.specs.declared.trie.cursor.TrieCursor.{TrieCursor}
use Rattle.mach_dyld.specs.declared.export_info.ExportInfo.{ExportInfo}
use Rattle.mach_dyld.specs.declared.trie.walk.Open.{Open}
use Rattle.goblin_mach.specs.Facts.{HasExports, HasExportsFault, HasLibraries, OfImage}
use Rattle.goblin_mach.specs.Subjects.{libs_in, trie_in, trie_or_empty}
use Rattle.goblin_mach_c.specs.Codes.{code_of_fault}
use Rattle.goblin_mach_c.specs.ExportRows.{export_row, text_or_empty}
use Rattle.goblin_mach_c.specs.declared.exports.Ending.{Ending}
use Rattle.goblin_mach_c.specs.declared.exports.Ending.TheVariants.{End, Refused, NameTooLong, StackTooShort}
use Rattle.goblin_mach_c.specs.declared.exports.gm_export_batch.{gm_export_batch}
use Rattle.goblin_mach_c.specs.declared.exports.gm_export_walk.{gm_export_walk}
use Rattle.goblin_mach_c.specs.declared.exports.gm_listed_export.{gm_listed_export}

-- ---- rows

-- For a re-export of the node that begins here, the library has the number that the node gives, and the name there is the text
-- after that number, empty if it is the same name. For another export both are 0.
abbrev pub IsBrought : List ℕ → (ℕ → List ℕ → Type 0) → ℕ → Info → ℕ → ℕ → Type 0
IsBrought bytes IsLibrary node (regular address flags) library target = (library ≡ 0) × (target ≡ 0)
IsBrought bytes IsLibrary node (reexport lib name flags) library target =
    (place_at bytes node ≡ Ok (library, target)) × IsLibrary library lib × (text_at bytes target ≡ Ok (text_or_empty name))
IsBrought bytes IsLibrary node (stub at resolver flags) library target = (library ≡ 0) × (target ≡ 0)

-- some names, one after the other
abbrev pub names_of : List Entry → List ℕ
names_of [] = []
names_of (e ∷ es) = e.name ++ names_of es

-- The row of an export after some others, of an image with this base: its name is after theirs, and it is the export of a node,
-- which identifies it.
pub record IsListed (bytes : List ℕ) (base : ℕ) (IsLibrary : ℕ → List ℕ → Type 0) (IsNode : List Entry → Entry → ℕ → Type 0) (before : List Entry)
    (e : Entry) (row : gm_listed_export) : Type 0 where
  pub name : row.name ≡ length (names_of before)
  pub name_len : row.name_len ≡ length e.name
  pub what : row.what ≡ export_row base (Some e.info)
  pub node : ℕ
  pub is_node : IsNode before e node
  pub brought : IsBrought bytes IsLibrary node e.info row.library row.target

-- the rows of exports after some others
abbrev pub AreListed : List ℕ → ℕ → (ℕ → List ℕ → Type 0) → (List Entry → Entry → ℕ → Type 0) → List Entry → List Entry → List gm_listed_export → Type 0
AreListed bytes base IsLibrary IsNode before [] [] = Unit {0}
AreListed bytes base IsLibrary IsNode before [] (row ∷ rows) = ⊥
AreListed bytes base IsLibrary IsNode before (e ∷ es) [] = ⊥
AreListed bytes base IsLibrary IsNode before (e ∷ es) (row ∷ rows) =
    IsListed bytes base IsLibrary IsNode before e row × AreListed bytes base IsLibrary IsNode (before ++ e ∷ []) es rows

-- These exports were written: `count` rows at the start of an array, and `used` bytes of names at the start of a buffer. What
-- follows them is unchanged.
pub record AreWritten (bytes : List ℕ) (base : ℕ) (IsLibrary : ℕ → List ℕ → Type 0) (IsNode : List Entry → Entry → ℕ → Type 0)
    (given : List Entry) (count used : ℕ) (old new : List gm_listed_export) (text text' : List ℕ) : Type 0 where
  pub is_count : count ≡ length given
  pub is_used : used ≡ length (names_of given)
  pub listed : List gm_listed_export
  pub are : AreListed bytes base IsLibrary IsNode [] given listed
  pub rows : new ≡ listed ++ drop count old
  pub names : text' ≡ names_of given ++ drop used text

-- the library of this number has this name; the image itself is number 0
abbrev pub HasLibrary : List ℕ → ℕ → ℕ → List ℕ → Type 0
HasLibrary bytes o number name = (libs : List (List ℕ)) × HasLibraries bytes o libs × (slice_get libs number ≡ Some name)

-- the library of this number in a list of libraries
abbrev pub IsNumbered : List (List ℕ) → ℕ → List ℕ → Type 0
IsNumbered libs number name = slice_get libs number ≡ Some name

-- The node of a trie that begins here has this export as its own. Whatever a walk has returned before, after that and these
-- exports comes this node, with the export's name, and a path of that name leads to it.
pub record IsNodeOf (t : TrieRange) (libs : List (List ℕ)) (HasGiven : List Entry → Type 0) (before : List Entry) (e : Entry) (node : ℕ) : Type 0 where
  pub own : IsOwnAt t.bytes libs t.from node e.info
  pub leads : (found : List Entry) → HasGiven found → IsNextNode (trie_there t libs) t.from (found ++ before) e.name node

-- ---- walks

-- a fault of this code ends the reading of a trie after these exports
abbrev pub IsCutFor : TrieRange → List (List ℕ) → List Entry → ℕ → Type 0
IsCutFor t libs found code = (f : Fault) × IsCutShort t libs found f × (code ≡ code_of_fault f)

-- A walk over this trie, with these libraries, has returned these exports: none before it begins, and then those that its cursor
-- has returned. If it has the code of a refusal, that is the code of a fault which ends the reading of the trie after these
-- exports.
pub record HasWalkedTrie (t : TrieRange) (libs : List (List ℕ)) (w : gm_export_walk) (name : List ℕ) (stack : List Open) (found : List Entry) : Type 0 where
  pub start : w.is_begun ≡ 0 → found ≡ []
  pub started : w.is_begun ≢ 0 → w.code ≡ 0 → HasGivenTo t libs w.cursor name stack found
  pub refused : w.code ≢ 0 → IsCutFor t libs found w.code

-- A walk over the exports of the image at o, with this name and these open nodes, has returned these.
abbrev pub HasWalked : List ℕ → ℕ → gm_export_walk → List ℕ → List Open → List Entry → Type 0
HasWalked bytes o w name stack found =
    OfImage bytes o (λ ctx cs. HasWalkedTrie (trie_or_empty (trie_in bytes cs)) (libs_in bytes cs) w name stack found)

-- After these rows of a walk over the image at o, this export is that of the node of its trie that begins here.
abbrev pub HasNodeOf : List ℕ → ℕ → gm_export_walk → List ℕ → List Open → List Entry → Entry → ℕ → Type 0
HasNodeOf bytes o w name stack before e node = OfImage bytes o (λ ctx cs.
    let t = trie_or_empty (trie_in bytes cs) in
    let libs = libs_in bytes cs in IsNodeOf t libs (HasWalkedTrie t libs w name stack) before e node)

-- Whatever the walk has returned before, it has now returned that and these.
abbrev pub GivesFurther : List ℕ → ℕ → gm_export_walk → List ℕ → List Open → List Entry → gm_export_walk → List ℕ → List Open → Type 0
GivesFurther bytes o w name stack given w' name' stack' = (found : List Entry) → HasWalked bytes o w name stack found
    → HasWalked bytes o w' name' stack' (found ++ given)

-- everything that is found by reading the trie of the image at o as if it were a tree
abbrev pub AreAllMetIn : List ℕ → ℕ → List Entry → Type 0
AreAllMetIn bytes o all = OfImage bytes o (λ ctx cs. AreAllMet (trie_or_empty (trie_in bytes cs)) (libs_in bytes cs) all)

-- Whatever the walk has returned before, that and these are everything that is found in the trie; and they are the image's
-- exports if no two paths lead to one node.
pub record IsWholeWith (bytes : List ℕ) (o : ℕ) (all : List Entry) : Type 0 where
  pub met : AreAllMetIn bytes o all
  pub listed : HasExports bytes o all ⊎ HasExportsFault bytes o malformed

abbrev pub EndsWholeWith : List ℕ → ℕ → gm_export_walk → List ℕ → List Open → List Entry → Type 0
EndsWholeWith bytes o w name stack given = (found : List Entry) → HasWalked bytes o w name stack found → IsWholeWith bytes o (found ++ given)

-- The next name in a trie has n bytes (up to 2 ^ 64 - 1): those of the node on top, and those of the label of its next branch.
abbrev pub IsNextName : TrieRange → TrieCursor → ℕ → Type 0
IsNextName t c n = (label : List ℕ) × IsNextLabel t.bytes t.from c label × (n ≡ min (c.top.name_len + length label) (2 ^ 64 - 1))

-- the same for the trie of the image at o
abbrev pub HasNextName : List ℕ → ℕ → gm_export_walk → ℕ → Type 0
HasNextName bytes o w n = OfImage bytes o (λ ctx cs. IsNextName (trie_or_empty (trie_in bytes cs)) w.cursor n)

-- ---- what a cursor returns from a trie

-- what a cursor returns next, as an export or as what comes instead
abbrev pub next_export_of : Result ExportInfo Ending → NextExport
next_export_of (Ok info) = next.Export info
next_export_of (Err (End)) = next.End
next_export_of (Err (Refused e)) = next.Refused e
next_export_of (Err (NameTooLong n)) = next.NameTooLong n
next_export_of (Err (StackTooShort)) = next.StackTooShort

-- the cursor has returned these exports, and then comes this ending, if any
abbrev pub StopsAt : TrieRange → List (List ℕ) → List Entry → Option Ending → TrieCursor → List ℕ → List Open → Type 0
StopsAt t libs found None c name stack = HasGivenTo t libs c name stack found
StopsAt t libs found (Some e) c name stack = NextGives t libs found (next_export_of (Err e)) c name stack

-- the code after an ending: that of a refusal, or 0
abbrev pub IsCode : Option Ending → ℕ → Type 0
IsCode None code = code ≡ 0
IsCode (Some (End)) code = code ≡ 0
IsCode (Some (Refused e)) code = code ≡ code_of_fault (fault_of e)
IsCode (Some (NameTooLong n)) code = code ≡ 0
IsCode (Some (StackTooShort)) code = code ≡ 0

-- the number of the end of a batch
abbrev pub end_number : (rows room name : ℕ) → Option Ending → ℕ
end_number rows room name None = if rows == 0 then 2 else (if nat_lt room name then 2 else 0)
end_number rows room name (Some (End)) = 1
end_number rows room name (Some (Refused e)) = 5
end_number rows room name (Some (NameTooLong n)) = 3
end_number rows room name (Some (StackTooShort)) = 4

-- how many rows, bytes or open nodes are needed to go on, when `used` nodes are in use
abbrev pub needed_number : (rows room name used : ℕ) → Option Ending → ℕ
needed_number rows room name used None = if rows == 0 then 1 else (if nat_lt room name then name else 0)
needed_number rows room name used (Some (End)) = 0
needed_number rows room name used (Some (Refused e)) = 0
needed_number rows room name used (Some (NameTooLong n)) = n
needed_number rows room name used (Some (StackTooShort)) = min (used + 1) (2 ^ 64 - 1)

-- the batch of a call that was refused before it returned anything
abbrev pub no_batch : gm_export_batch
no_batch = record { count = 0; names_len = 0; needed = 0; end = 5; reserved = 0 }

-- Whatever a walk over this trie has returned before, it has now returned that and these. At the end (1) they are everything that
-- is found, and the trie's exports if no two paths lead to one node.
pub record GoesAlong (t : TrieRange) (libs : List (List ℕ)) (w w' : gm_export_walk) (name name' : List ℕ) (stack stack' : List Open) (given : List Entry)
    (end : ℕ) : Type 0 where
  pub walked : (found : List Entry) → HasWalkedTrie t libs w name stack found → HasWalkedTrie t libs w' name' stack' (found ++ given)
  pub met : end ≡ 1 → (found : List Entry) → HasWalkedTrie t libs w name stack found → AreAllMet t libs (found ++ given)
  pub ended : end ≡ 1 → (found : List Entry) → HasWalkedTrie t libs w name stack found
      → ListsExports t libs (found ++ given) ⊎ ExportsFault t libs malformed
