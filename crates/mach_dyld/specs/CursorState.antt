-- The position of a cursor's walk of the export trie. Callers don't need it: they see what a cursor has returned.
use Rattle.std.specs.Prelude.{◌≡◌, ◌<◌, ◌≤◌, ◌+◌, ◌-◌, ◌*◌, ◌^◌, ◌++◌, ◌⊎◌, ℕ, List, [], ◌∷◌, Option, Some, None, nat_lt, if◌then◌else◌, length, take}
use Rattle.std.specs.Prelude.{reverse, min, Ok}
use Rattle.mach_base.specs.Fault.{fault_of}
use Rattle.mach_dyld.specs.Exports.{info_of}
use Rattle.mach_dyld.specs.Nodes.{branch_at}
use Rattle.mach_dyld.specs.Trie as trie
use Rattle.mach_dyld.specs.Trie.{Entry, entry}
use Rattle.mach_dyld.specs.TrieRange.{TrieRange, trie_there}
use Rattle.mach_dyld.specs.Reading.{IsReadSoFar, branches_left}
use Rattle.mach_dyld.specs.Unfolds.{Unfolds, IsCutBy, IsNextNode}
use Rattle.mach_dyld.specs.declared.trie.cursor.NextExport.{NextExport}
use Rattle.mach_dyld.specs.declared.trie.cursor.NextExport.TheVariants.{Export, End, Refused, NameTooLong, StackTooShort}
use Rattle.mach_dyld.specs.declared.trie.cursor.TrieCursor.{TrieCursor}
use Rattle.mach_dyld.specs.declared.trie.walk.Open.{Open}

-- the open nodes below the top, the innermost first
abbrev pub below : TrieCursor → List Open → List Open
below c stack = reverse (take c.depth stack)

-- the name of the node met last
abbrev pub name_met_last : TrieCursor → List ℕ → List ℕ
name_met_last c name = take c.name_len name

-- the memory holds what the cursor counts in it, and the visits left and the n visits made add up to the bytes of the range
pub record IsKept (t : TrieRange) (c : TrieCursor) (name : List ℕ) (stack : List Open) (n : ℕ) : Type 0 where
  pub name_len : c.name_len ≤ length name
  pub depth : c.depth ≤ length stack
  pub visits : c.visits_left + n ≡ t.upto - t.from

-- the root, as the child of a branch
abbrev pub root : TrieRange → trie.Branch
root t = record { label = []; start = t.from }

-- At a branch that was read; `rest` is what is left of its node after it. The cursor has met these exports, reading the trie
-- as if it were a tree.
pub record IsAtChild (t : TrieRange) (libs : List (List ℕ)) (c : TrieCursor) (name : List ℕ) (stack : List Open) (b : trie.Branch) (rest : Open)
    (found : List Entry) : Type 0 where
  pub nodes : ℕ
  pub kept : IsKept t c name stack nodes
  pub is_read : IsReadSoFar t libs (name_met_last c name) (record { name = take rest.name_len (name_met_last c name) ++ b.label; start = b.start } ∷ [])
      (rest ∷ below c stack)
      found nodes

-- the same at the root, between two branches, or when all exports were met
pub data HasCome (t : TrieRange) (libs : List (List ℕ)) (c : TrieCursor) (name : List ℕ) (stack : List Open) (found : List Entry) : Type 0 where
  at_root : c.phase ≡ 0 → IsAtChild t libs c name stack (root t) c.top found → HasCome t libs c name stack found
  between : (n : ℕ) → c.phase ≡ 1 → IsKept t c name stack n → IsReadSoFar t libs (name_met_last c name) [] (c.top ∷ below c stack) found n
      → HasCome t libs c name stack found
  all_met : (n : ℕ) → 1 < c.phase → Unfolds (trie_there t libs) t.from n found [] → HasCome t libs c name stack found

-- ---- what a turn gives after these exports

-- one more export, that of the next node; at the end nothing, and all exports were met; an error if it cuts the reading short
abbrev pub TurnGives : TrieRange → List (List ℕ) → List Entry → Option NextExport → TrieCursor → List ℕ → List Open → Type 0
TurnGives t libs found None c name stack = HasCome t libs c name stack found
TurnGives t libs found (Some (Export info)) c name stack =
    HasCome t libs c name stack (found ++ entry (name_met_last c name) (info_of info) ∷ [])
    × IsNextNode (trie_there t libs) t.from found (name_met_last c name) c.node
TurnGives t libs found (Some (End)) c name stack = HasCome t libs c name stack found × (n : ℕ) × Unfolds (trie_there t libs) t.from n found []
TurnGives t libs found (Some (Refused e)) c name stack = IsCutBy (trie_there t libs) t.from found (fault_of e)
TurnGives t libs found (Some (NameTooLong n)) c name stack = Unit {0}
TurnGives t libs found (Some (StackTooShort)) c name stack = Unit {0}

-- the walk is unchanged
pub record IsAsBefore (c d : TrieCursor) (name name' : List ℕ) (stack stack' : List Open) : Type 0 where
  pub same_cursor : d ≡ c
  pub same_name : name' ≡ name
  pub same_stack : stack' ≡ stack

-- it came to an end of the memory
abbrev pub IsStopped : Option NextExport → Type 0
IsStopped None = ⊥
IsStopped (Some (Export info)) = ⊥
IsStopped (Some (End)) = ⊥
IsStopped (Some (Refused e)) = ⊥
IsStopped (Some (NameTooLong n)) = Unit {0}
IsStopped (Some (StackTooShort)) = Unit {0}

-- the work left in a trie of `most` bytes: visits, and the branches of open nodes
abbrev pub cursor_work : ℕ → ℕ → List Open → ℕ
cursor_work most visits os = (most + 2) * visits + branches_left os

abbrev pub work_of : ℕ → TrieCursor → List Open → ℕ
work_of most c stack = if nat_lt 1 c.phase then 0 else (cursor_work most c.visits_left (c.top ∷ below c stack) + (1 - c.phase))

-- the label of the next branch; the root's is empty
abbrev pub IsNextLabel : List ℕ → ℕ → TrieCursor → List ℕ → Type 0
IsNextLabel bytes from c label =
    ((c.phase ≡ 0) × (label ≡ [])) ⊎ ((start : ℕ) × (after : ℕ) × (branch_at bytes from c.top.place ≡ Ok (record { label = label; start = start }, after)))

-- the memory is too short for the next name, whose length is given, or all nodes of the stack are in use
abbrev pub IsFull : List ℕ → ℕ → TrieCursor → List ℕ → List Open → Option NextExport → Type 0
IsFull bytes from c name stack None = Unit {0}
IsFull bytes from c name stack (Some (Export info)) = Unit {0}
IsFull bytes from c name stack (Some (End)) = Unit {0}
IsFull bytes from c name stack (Some (Refused e)) = Unit {0}
IsFull bytes from c name stack (Some (NameTooLong n)) =
    (label : List ℕ) × IsNextLabel bytes from c label × (n ≡ min (c.top.name_len + length label) (2 ^ 64 - 1)) × (length name < c.top.name_len + length label)
IsFull bytes from c name stack (Some (StackTooShort)) = length stack ≤ c.depth
