-- For each node that is ahead in a reading, a path of its name leads to it.
use Rattle.mach_dyld.proofs.TrieNames.{◌≡◌, ℕ, suc, List, [], ◌∷◌, ◌++◌, drop, refl, sym, subst, append-nil, Branch, Node, Trie, Entry, IsNode, Leads}
use Rattle.mach_dyld.proofs.TrieNames.{Ahead, ahead, Unfolds, nothing_read, passed, node_read}
use Rattle.mach_dyld.specs.TerminalPaths.{IsNameOf}
use Rattle.mach_dyld.specs.Unfolds.{IsNextNode, LeadsByName}
use Rattle.mach_dyld.proofs.TriePaths.{Leads-append, drop_head}
use Rattle.mach_dyld.proofs.LookUpPaths.{name_append}

-- a path of its name leads to each of these
abbrev AreNamed : Trie → ℕ → List Ahead → Type 0
AreNamed t root [] = Unit {0}
AreNamed t root (a ∷ others) = LeadsByName t root a.name a.start × AreNamed t root others

module _ {t : Trie} {root : ℕ} where
  -- the children of a node, from the branch of a number on
  children_named : (prefix : List ℕ) (start : ℕ) (node : Node) → LeadsByName t root prefix start → IsNode t start node → (k : ℕ) (bs : List Branch)
      (others : List Ahead) → bs ≡ drop k node.branches → AreNamed t root others → AreNamed t root (ahead prefix bs ++ others)
  children_named prefix start node way is k [] others e more = more
  children_named prefix start node way is k (b ∷ bs) others e more =
      let head = drop_head node.branches k b bs (sym e) in
      let child : Leads t (k ∷ []) start b.start = (node, b, is.0, is.1, head.0, refl) in
      let label : IsNameOf t start (k ∷ []) b.label = (node, b, [], is.1, head.0, refl, sym (append-nil b.label)) in (
        (
          way.0 ++ k ∷ [],
          Leads-append t way.0 (k ∷ []) root start b.start way.1 child,
          name_append t way.0 (k ∷ []) root start prefix b.label way.1 way.2 label,
        ),
        children_named prefix start node way is (suc k) bs others head.1 more,
      )

  are_named : {n : ℕ} {found : List Entry} {left : List Ahead} → Unfolds t root n found left → AreNamed t root left
  are_named nothing_read = (([], refl, refl), tt)
  are_named (passed before out) = (are_named before).1
  are_named (node_read {next = next} {others = others} node before is met_is left_is) =
      let rest = are_named before in
      subst (AreNamed t root) (sym left_is) (children_named next.name next.start node rest.0 is 0 node.branches others refl rest.1)

  -- the next node
  pub is_next : {n : ℕ} {found : List Entry} {next : Ahead} {others : List Ahead} → Unfolds t root n found (next ∷ others)
      → IsNextNode t root found next.name next.start
  is_next {n} {others = others} read = record { nodes = n; others = others; read = read; leads = (are_named read).0 }
