-- What is found of a name from a node on, branch by branch.
use Rattle.std.specs.Prelude.{◌≡◌, ◌≢◌, ◌≤◌, ℕ, List, [], ◌∷◌, ◌++◌, ◌⊎◌, Option, Some, None}
use Rattle.mach_dyld.specs.Trie.{Info, Branch, Node, Trie, IsNode}

-- the own export is not the one searched for: there is none, or some of the name is left
abbrev pub IsElsewhere : List ℕ → Option Info → Type 0
IsElsewhere rest own = (own ≡ None) ⊎ (rest ≢ [])

-- A start, the rest of the name there, and what is found: the least relation with these cases. Nothing has no export. A
-- node's own export is found if nothing is left of the name. Otherwise its branches are tried in order. A branch is passed
-- if its label isn't a prefix of the rest. The first branch through which something is found decides.
mutual
  pub data Finds (t : Trie) : ℕ → List ℕ → Option Info → Type 0 where
    at_nothing : {start : ℕ} {rest : List ℕ} {found : Option Info} → t.upto ≤ start → found ≡ None → Finds t start rest found
    here : {start : ℕ} {rest : List ℕ} {found : Option Info} (node : Node) (info : Info) → IsNode t start node → node.own ≡ Some info → rest ≡ []
        → found ≡ Some info → Finds t start rest found
    below : {start : ℕ} {rest : List ℕ} {found : Option Info} (node : Node) → IsNode t start node → IsElsewhere rest node.own
        → BranchesFind t rest node.branches found → Finds t start rest found

  pub data BranchesFind (t : Trie) : List ℕ → List Branch → Option Info → Type 0 where
    none_left : {rest : List ℕ} {found : Option Info} → found ≡ None → BranchesFind t rest [] found
    passed : {rest : List ℕ} {b : Branch} {bs : List Branch} {found : Option Info} → ((others : List ℕ) → rest ≡ b.label ++ others → ⊥)
        → BranchesFind t rest bs found → BranchesFind t rest (b ∷ bs) found
    following : {rest : List ℕ} {b : Branch} {bs : List Branch} {found : Option Info} (others : List ℕ) (info : Info) → rest ≡ b.label ++ others
        → Finds t b.start others (Some info) → found ≡ Some info → BranchesFind t rest (b ∷ bs) found
    gone_back : {rest : List ℕ} {b : Branch} {bs : List Branch} {found : Option Info} (others : List ℕ) → rest ≡ b.label ++ others
        → Finds t b.start others None → BranchesFind t rest bs found → BranchesFind t rest (b ∷ bs) found
