-- An export trie read as if it were a tree, depth first: a node to which two paths lead is met once on each of them.
use Rattle.std.specs.Prelude.{◌≡◌, ◌<◌, ◌≤◌, ◌-◌, ◌⊎◌, ℕ, suc, List, [], ◌∷◌, ◌++◌, map, Err}
use Rattle.mach_base.specs.Fault.{Fault, malformed}
use Rattle.mach_dyld.specs.Trie.{Branch, Node, Trie, IsNode, Entry, own_entries}
use Rattle.mach_dyld.specs.Paths.{Leads}
use Rattle.mach_dyld.specs.TerminalPaths.{IsNameOf}

-- a branch still to be followed: the name of its child, and the place where the child begins
pub record Ahead : Type 0 where
  pub name : List ℕ
  pub start : ℕ

-- the branches of a node of this name
abbrev pub ahead : List ℕ → List Branch → List Ahead
ahead prefix branches = map (λ b. record { name = prefix ++ b.label; start = b.start }) branches

abbrev pub to_root : ℕ → Ahead
to_root root = record { name = []; start = root }

-- This many nodes were read from the root on, these exports were met, and these branches are still to be followed, the next
-- one first. A branch to nothing is skipped. A node's own export is met before those of its children, which come before what
-- was ahead.
pub data Unfolds (t : Trie) (root : ℕ) : ℕ → List Entry → List Ahead → Type 0 where
  nothing_read : Unfolds t root 0 [] (to_root root ∷ [])
  passed : {n : ℕ} {found : List Entry} {next : Ahead} {others : List Ahead} → Unfolds t root n found (next ∷ others) → t.upto ≤ next.start
      → Unfolds t root n found others
  node_read : {n : ℕ} {found met : List Entry} {next : Ahead} {others left : List Ahead} (node : Node) → Unfolds t root n found (next ∷ others)
      → IsNode t next.start node → met ≡ found ++ own_entries next.name node.own → left ≡ ahead next.name node.branches ++ others
      → Unfolds t root (suc n) met left

-- a path of this name leads from the one start to the other
abbrev pub LeadsByName : Trie → ℕ → List ℕ → ℕ → Type 0
LeadsByName t from name to = (path : List ℕ) × Leads t path from to × IsNameOf t from path name

-- After these exports comes the node that begins here and has this name: a path of the name leads to it.
pub record IsNextNode (t : Trie) (root : ℕ) (found : List Entry) (name : List ℕ) (at : ℕ) : Type 0 where
  pub nodes : ℕ
  pub others : List Ahead
  pub read : Unfolds t root nodes found (record { name = name; start = at } ∷ others)
  pub leads : LeadsByName t root name at

-- These exports were met, and the reading can't continue because of this fault. Either the next node is malformed; or it
-- comes after as many nodes as the trie has places, so that two of these are one.
pub record IsCutBy (t : Trie) (root : ℕ) (found : List Entry) (f : Fault) : Type 0 where
  pub nodes : ℕ
  pub next : Ahead
  pub others : List Ahead
  pub read : Unfolds t root nodes found (next ∷ others)
  pub inside : next.start < t.upto
  pub why : (t.node next.start ≡ Err f) ⊎ ((nodes ≡ t.upto - root) × (f ≡ malformed))

-- ---- where a walk ends that reads no node twice

-- After this many nodes comes the one that begins here.
pub record ComesNext (t : Trie) (root nodes start : ℕ) : Type 0 where
  pub inside : start < t.upto
  pub met : List Entry
  pub name : List ℕ
  pub others : List Ahead
  pub read : Unfolds t root nodes met (record { name = name; start = start } ∷ others)

-- the node that begins here is one of these: it comes next after fewer of them
abbrev pub WasRead : Trie → ℕ → ℕ → ℕ → Type 0
WasRead t root nodes start = (fewer : ℕ) × (fewer < nodes) × ComesNext t root fewer start

-- none of these nodes is read twice
abbrev pub AreReadOnce : Trie → ℕ → ℕ → Type 0
AreReadOnce t root nodes = (fewer start : ℕ) → fewer < nodes → ComesNext t root fewer start → WasRead t root fewer start → ⊥

-- These exports were met, of nodes that are all different, and there the walk ends, for this fault: the next node is
-- malformed, or it was read before.
pub record IsEndOfWalk (t : Trie) (root : ℕ) (found : List Entry) (f : Fault) : Type 0 where
  pub nodes : ℕ
  pub next : Ahead
  pub others : List Ahead
  pub read : Unfolds t root nodes found (next ∷ others)
  pub inside : next.start < t.upto
  pub once : AreReadOnce t root nodes
  pub why : (t.node next.start ≡ Err f) ⊎ (WasRead t root nodes next.start × (f ≡ malformed))
