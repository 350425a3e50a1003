-- The state of a look-up in the export trie.
use Rattle.std.specs.Prelude.{◌≡◌, ◌≢◌, ◌<◌, ◌+◌, ◌++◌, [], ◌∷◌, ℕ, suc, List, length, drop, Option, Some, None, slice_get}
use Rattle.std.specs.Prelude.{Ok}
use Rattle.mach_base.specs.Among.{IsAmong}
use Rattle.mach_dyld.specs.Trie as trie
use Rattle.mach_dyld.specs.Trie.{Info, Node, Trie}
use Rattle.mach_dyld.specs.Visits.{AreApart}
use Rattle.mach_dyld.specs.Finds.{Finds, BranchesFind, IsElsewhere}
use Rattle.mach_dyld.specs.LookUp.{IsOnWay}
use Rattle.mach_dyld.specs.Nodes.{branches_at}
use Rattle.mach_dyld.specs.Exports.{info_of}
use Rattle.mach_dyld.specs.Views.{source_trie, node_in, own_in}
use Rattle.mach_dyld.specs.declared.trie.walk.Source.{Source}
use Rattle.mach_dyld.specs.declared.trie.look_up.Branching.{Branching}
use Rattle.mach_dyld.specs.declared.trie.look_up.Branching.TheVariants.{Nowhere, One, Several}
use Rattle.mach_dyld.specs.declared.trie.look_up.Outcome.{Outcome}
use Rattle.mach_dyld.specs.declared.trie.look_up.Outcome.TheVariants.{Found, Ends, Child, Open}

-- the own export of `size` bytes, if there is one, and the place after it
abbrev pub OwnEnds : Source → ℕ → ℕ → Option Info → ℕ → Type 0
OwnEnds s size place None after = (size ≡ 0) × (after ≡ place)
OwnEnds s size place (Some info) after = (size ≢ 0) × (own_in s size place ≡ Ok (info, after))

-- some branches without the first few, through which nothing is found
pub record Settles (t : Trie) (rest : List ℕ) (bs cs : List trie.Branch) : Type 0 where
  pub number : ℕ
  pub dropped : cs ≡ drop number bs
  pub finds : (found : Option Info) → BranchesFind t rest cs found → BranchesFind t rest bs found

-- the first branch, if there is one, spells a prefix of the rest and leads into the range
abbrev pub FirstBranchLeads : Trie → List ℕ → List trie.Branch → Type 0
FirstBranchLeads t rest [] = Unit {0}
FirstBranchLeads t rest (b ∷ bs) = (b.start < t.upto) × (others : List ℕ) × (rest ≡ b.label ++ others)

-- one of the branches leads into the range, by a label of `len` bytes, and what is found there decides
pub record LeadsOn (t : Trie) (rest : List ℕ) (bs : List trie.Branch) (start len : ℕ) : Type 0 where
  pub number : ℕ
  pub branch : trie.Branch
  pub others : List ℕ
  pub there : slice_get bs number ≡ Some branch
  pub start_is : branch.start ≡ start
  pub len_is : length branch.label ≡ len
  pub inside : start < t.upto
  pub spells : rest ≡ branch.label ++ others
  pub finds : (found : Option Info) → Finds t start others found → BranchesFind t rest bs found

-- which of the branches match
abbrev pub Goes : Trie → List ℕ → List trie.Branch → Branching → Type 0
Goes t rest bs (Nowhere) = BranchesFind t rest bs None
Goes t rest bs (One start len) = LeadsOn t rest bs start len
Goes t rest bs (Several) = Unit {0}

-- the node's own export is not the one searched for, and P holds of its branches
abbrev pub IsPassed : Source → ℕ → List ℕ → (List trie.Branch → Type 0) → Type 0
IsPassed s start rest P = (node : Node) × (node_in s start ≡ Ok node) × IsElsewhere rest node.own × P node.branches

abbrev pub ComesTo : Source → ℕ → List ℕ → Outcome → Type 0
ComesTo s start rest (Found info) = (node : Node) × (node_in s start ≡ Ok node) × (node.own ≡ Some (info_of info)) × (rest ≡ [])
ComesTo s start rest (Ends) = IsPassed s start rest (λ bs. BranchesFind (source_trie s) rest bs None)
ComesTo s start rest (Child child len) = (start < child) × IsPassed s start rest (λ bs. LeadsOn (source_trie s) rest bs child len)
ComesTo s start rest (Open b) = IsPassed s start rest (λ bs. branches_at s.bytes.now s.from b.left b.place ≡ Ok bs)

-- the visits of a search from a node on, which was visited before
pub record SearchVisits (t : Trie) (root : ℕ) (name : List ℕ) (old new : ℕ) : Type 0 where
  pub paths : List (List ℕ)
  pub on_way : (p : List ℕ) → IsAmong p paths → IsOnWay t root name p
  pub apart : AreApart t root paths
  pub count : suc new ≡ old + length paths
