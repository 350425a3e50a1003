-- A trie is read as if it were a tree in only one order.
use Rattle.mach_dyld.proofs.TrieNames.{◌≡◌, ◌<◌, ◌≤◌, ℕ, suc, List, [], ◌∷◌, ◌++◌, length, Some, Ok, Info, refl, sym, ap, subst, ◌∙◌, inl, inr, arith}
use Rattle.mach_dyld.proofs.TrieNames.{cases_eq, cases_lt, Fault, ComesNext, WasRead, IsEndOfWalk}
use Rattle.mach_dyld.proofs.TrieNames.{length-append, Node, Trie, IsNode, Entry, own_entries, Ahead, ahead, Unfolds, nothing_read, passed, node_read}
use Rattle.mach_dyld.specs.Unfolds.{IsNextNode}
use Rattle.mach_dyld.proofs.TriePaths.{same_node}

same_head : {x y : Ahead} {xs ys : List Ahead} → x ∷ xs ≡ y ∷ ys → x ≡ y
same_head e = cc

same_tail : {x y : Ahead} {xs ys : List Ahead} → x ∷ xs ≡ y ∷ ys → xs ≡ ys
same_tail e = cc

-- the number of branches that were followed or skipped
abbrev steps : {t : Trie} {root n : ℕ} {found : List Entry} {left : List Ahead} → Unfolds t root n found left → ℕ
steps nothing_read = 0
steps (passed before out) = suc (steps before)
steps (node_read node before is met_is left_is) = suc (steps before)

-- a reading of n nodes up to a step of it, which met no more exports
record UpTo (t : Trie) (root k n : ℕ) (found : List Entry) : Type 0 where
  nodes : ℕ
  met : List Entry
  left : List Ahead
  read : Unfolds t root nodes met left
  count : steps read ≡ k
  few : length met ≤ length found
  not_more : nodes ≤ n

module _ {t : Trie} {root : ℕ} where
  -- equal numbers of steps come to one place
  one_reading : {n m : ℕ} {found met : List Entry} {left ahead_then : List Ahead} (u : Unfolds t root n found left) (v : Unfolds t root m met ahead_then)
      → steps u ≡ steps v → (n ≡ m) × (found ≡ met) × (left ≡ ahead_then)
  one_reading nothing_read nothing_read e = (refl, refl, refl)
  one_reading nothing_read (passed v out) e = absurd (omega arith)
  one_reading nothing_read (node_read node v is a b) e = absurd (omega arith)
  one_reading (passed u out) nothing_read e = absurd (omega arith)
  one_reading (passed u out) (passed v out') e = let same = one_reading u v (omega arith) in (same.0, same.1, same_tail same.2)
  one_reading (passed {next = x} u out) (node_read {next = y} node v is a b) e =
      let same = one_reading u v (omega arith) in
      let start = ap (λ (x : Ahead). x.start) (same_head same.2) in
      let inside = is.0 in absurd (omega arith)
  one_reading (node_read node u is a b) nothing_read e = absurd (omega arith)
  one_reading (node_read {next = y} node u is a b) (passed {next = x} v out) e =
      let same = one_reading u v (omega arith) in
      let start = ap (λ (x : Ahead). x.start) (same_head same.2) in
      let inside = is.0 in absurd (omega arith)
  one_reading (node_read {found = f} {next = x} {others = l} node u is a b) (node_read {found = g} {next = y} {others = r} other v also c d) e =
      let same = one_reading u v (omega arith) in
      let next : x ≡ y = same_head same.2 in
      let there : node ≡ other = same_node is.1 (subst (λ (z : Ahead). t.node z.start ≡ Ok other) (sym next) also.1) in (
        ap suc same.0,
        a ∙ ap (λ (es : List Entry). es ++ own_entries x.name node.own) same.1 ∙ ap (λ (z : Ahead). g ++ own_entries z.name node.own) next
            ∙ ap (λ (z : Node). g ++ own_entries y.name z.own) there ∙ sym c,
        b ∙ ap (λ (others : List Ahead). ahead x.name node.branches ++ others) (same_tail same.2)
            ∙ ap (λ (z : Ahead). ahead z.name node.branches ++ r) next ∙ ap (λ (z : Node). ahead y.name z.branches ++ r) there ∙ sym d,
      )

  up_to : {n : ℕ} {found : List Entry} {left : List Ahead} (u : Unfolds t root n found left) (k : ℕ) → k ≤ steps u → UpTo t root k n found
  up_to nothing_read k le = record { nodes = 0; met = []; left = _; read = nothing_read; count = omega arith; few = omega arith; not_more = omega arith }
  up_to {n} {found} {left} (passed u out) k le = elim (cases_eq k (suc (steps u))) [
    | inl all ↦ record { nodes = n; met = found; left = left; read = passed u out; count = sym all; few = omega arith; not_more = omega arith }
    | inr less ↦ up_to u k (omega arith)
  ]
  up_to {n} {found} {left} (node_read {found = f} {next = x} node u is a b) k le = elim (cases_eq k (suc (steps u))) [
    | inl all ↦ record { nodes = n; met = found; left = left; read = node_read node u is a b; count = sym all; few = omega arith; not_more = omega arith }
    | inr less ↦ (
        let r = up_to u k (omega arith) in
        let few = r.few in
        let not_more = r.not_more in
        let long = ap (λ (es : List Entry). length es) a ∙ length-append f (own_entries x.name node.own) in
        record { nodes = r.nodes; met = r.met; left = r.left; read = r.read; count = r.count; few = omega arith; not_more = omega arith })
  ]

  -- after a node's own export more exports were met
  not_after : {n m : ℕ} {found : List Entry} {x : Ahead} {others left : List Ahead} (u : Unfolds t root n found (x ∷ others)) (node : Node) (info : Info)
      → IsNode t x.start node → node.own ≡ Some info → (v : Unfolds t root m found left) → steps u < steps v → ⊥
  not_after {found = found} {x = x} u node info is own v less =
      let r = up_to v (suc (steps u)) (omega arith) in
      let w : Unfolds t root _ (found ++ own_entries x.name node.own) _ = node_read node u is refl refl in
      let same = (one_reading w r.read (sym r.count)).1 in
      let one = ap (λ o. length (own_entries x.name o)) own in
      let long = sym (length-append found (own_entries x.name node.own)) ∙ ap (λ (es : List Entry). length es) same in
      let few = r.few in omega arith

  pub one_next : (found : List Entry) (m n : List ℕ) (a b : ℕ) (v w : Node) (x y : Info) → IsNextNode t root found m a → IsNextNode t root found n b
      → IsNode t a v → v.own ≡ Some x → IsNode t b w → w.own ≡ Some y → (m ≡ n) × (a ≡ b)
  one_next found m n a b v w x y p q is own also has = elim (cases_lt (steps p.read) (steps q.read)) [
    | inl less ↦ absurd (not_after p.read v x is own q.read less)
    | inr more ↦ elim (cases_lt (steps q.read) (steps p.read)) [
      | inl less ↦ absurd (not_after q.read w y also has p.read less)
      | inr no_more ↦ (
          let next = same_head (one_reading p.read q.read (omega arith)).2 in
          (ap (λ (z : Ahead). z.name) next, ap (λ (z : Ahead). z.start) next))
    ]
  ]

  -- the step after a node that came next reads it
  next_read : {n k : ℕ} {found met : List Entry} {x : Ahead} {others left : List Ahead} (u : Unfolds t root n found (x ∷ others)) → x.start < t.upto
      → (w : Unfolds t root k met left) → steps w ≡ suc (steps u) → (n < k) × (node : Node) × (t.node x.start ≡ Ok node)
  next_read u inside nothing_read e = absurd (omega arith)
  next_read u inside (passed w out) e =
      let same = one_reading u w (omega arith) in let start = ap (λ (x : Ahead). x.start) (same_head same.2) in absurd (omega arith)
  next_read u inside (node_read node w is a b) e =
      let same = one_reading u w (omega arith) in
      let count = same.0 in (omega arith, node, subst (λ (z : Ahead). t.node z.start ≡ Ok node) (sym (same_head same.2)) is.1)

  -- a reading that continues after a node that came next has read it
  goes_past : {n m : ℕ} {found met : List Entry} {x : Ahead} {others left : List Ahead} (u : Unfolds t root n found (x ∷ others)) → x.start < t.upto
      → (v : Unfolds t root m met left) → steps u < steps v → (n < m) × (node : Node) × (t.node x.start ≡ Ok node)
  goes_past u inside v less =
      let r = up_to v (suc (steps u)) (omega arith) in
      let past = next_read u inside r.read r.count in
      let many = past.0 in let few = r.not_more in (omega arith, past.1, past.2)

  -- after a number of nodes only one comes next
  pub one_comes_next : {n start : ℕ} {found : List Entry} {x : Ahead} {others : List Ahead} (c : ComesNext t root n start)
      (v : Unfolds t root n found (x ∷ others)) → x.start < t.upto → start ≡ x.start
  one_comes_next c v inside = elim (cases_lt (steps c.read) (steps v)) [
    | inl less ↦ absurd (let past = (goes_past c.read c.inside v less).0 in omega arith)
    | inr more ↦ elim (cases_lt (steps v) (steps c.read)) [
      | inl less ↦ absurd (let past = (goes_past v inside c.read less).0 in omega arith)
      | inr no_more ↦ ap (λ (z : Ahead). z.start) (same_head (one_reading c.read v (omega arith)).2)
    ]
  ]

  -- a node that was read isn't malformed
  was_node : {n : ℕ} {found : List Entry} {x : Ahead} {others : List Ahead} (v : Unfolds t root n found (x ∷ others)) → x.start < t.upto
      → WasRead t root n x.start → (node : Node) × (t.node x.start ≡ Ok node)
  was_node v inside was =
      let c = was.2 in
      let fewer = was.1 in
      elim (cases_lt (steps c.read) (steps v)) [
        | inl less ↦ (let past = goes_past c.read c.inside v less in (past.1, past.2))
        | inr more ↦ elim (cases_lt (steps v) (steps c.read)) [
          | inl less ↦ absurd (let past = (goes_past v inside c.read less).0 in omega arith)
          | inr no_more ↦ absurd (let same = (one_reading c.read v (omega arith)).0 in omega arith)
        ]
      ]

  -- no walk continues after an end
  not_past_end : {found met : List Entry} {f g : Fault} (p : IsEndOfWalk t root found f) (q : IsEndOfWalk t root met g) → steps p.read < steps q.read → ⊥
  not_past_end {found} p q less =
      let past = goes_past p.read p.inside q.read less in
      elim p.why [
        | inl bad ↦ (let good = past.2 in cc)
        | inr was ↦ q.once p.nodes p.next.start past.0
            (record { inside = p.inside; met = found; name = p.next.name; others = p.others; read = p.read }) was.0
      ]

  pub one_end : (found met : List Entry) (f g : Fault) → IsEndOfWalk t root found f → IsEndOfWalk t root met g → (found ≡ met) × (f ≡ g)
  one_end found met f g p q = elim (cases_lt (steps p.read) (steps q.read)) [
    | inl less ↦ absurd (not_past_end p q less)
    | inr more ↦ elim (cases_lt (steps q.read) (steps p.read)) [
      | inl less ↦ absurd (not_past_end q p less)
      | inr no_more ↦ (let same = one_reading p.read q.read (omega arith) in (same.1, one_why p q (same_head same.2)))
    ]
  ]
    where
      one_why : (p : IsEndOfWalk t root found f) (q : IsEndOfWalk t root met g) → p.next ≡ q.next → f ≡ g
      one_why p q next = elim p.why [
        | inl bad ↦ elim q.why [
          | inl also ↦ (let start = ap (λ (z : Ahead). t.node z.start) next in cc)
          | inr was ↦ absurd (
              let good = (was_node q.read q.inside was.0).1 in let start = ap (λ (z : Ahead). t.node z.start) next in cc)
        ]
        | inr was ↦ elim q.why [
          | inl also ↦ absurd (
              let good = (was_node p.read p.inside was.0).1 in let start = ap (λ (z : Ahead). t.node z.start) next in cc)
          | inr also ↦ was.1 ∙ sym also.1
        ]
      ]
