-- The number of visits that a walk of the trie makes.
use Rattle.mach_dyld.proofs.TrieNames.{◌≡◌, ◌≤◌, ◌<◌, ◌+◌, ◌↔◌, ℕ, zero, suc, Bool, true, false, cond, eqb, nat_le, List, [], ◌∷◌, ◌⊎◌, inl, inr, length, Some}
use Rattle.mach_dyld.proofs.TrieNames.{Result, Ok, Err, refl, sym, ap, subst, ◌∙◌, arith, slice_get, cases_Bool, eqb-true, leb-true, Fault, Branch, Node, Trie}
use Rattle.mach_dyld.proofs.TrieNames.{Leads, Path, Before, AreInOrder, IsAmong, AreApart, Visits}
use Rattle.mach_dyld.proofs.TrieNames.{range_with_len, cases_eq, StartsFrom, ◌-◌}
use Rattle.std.proofs.lemmas.List.FromFn.{length-range_with_len}
use Rattle.mach_dyld.proofs.TriePaths.{leads_inside, leads_from, not_before_itself}

-- the others in a list, with one left out
leave_out : {X : Type 0} (x : X) (xs : List X) → IsAmong x xs → (rest : List X) × (length xs ≡ suc (length rest))
    × ((y : X) → IsAmong y xs → (y ≡ x) ⊎ IsAmong y rest)
leave_out x [] i = absurd i
leave_out x (z ∷ xs) i = elim i [
  | inl here ↦ (xs, refl, λ y j. elim j [ inl first ↦ inl (first ∙ sym here) | inr later ↦ inr later ])
  | inr there ↦ (
      let more = leave_out x xs there in (
        z ∷ more.0,
        ap suc more.1,
        λ y j. elim j [
          | inl first ↦ inr (inl first)
          | inr later ↦
              elim (more.2 y later) [ inl same ↦ inl same | inr other ↦ inr (inr other) ]
        ],
      ))
]

-- if each of some things belongs to one in a list, and no two to the same, there are at most as many of them as in the list
module _ {X Y : Type 0} (Belongs : X → Y → Type 0) where
  abbrev pub Apart : List X → Type 0
  Apart [] = Unit {0}
  Apart (x ∷ xs) = ((z : X) (y : Y) → IsAmong z xs → Belongs x y → Belongs z y → ⊥) × Apart xs

  pub no_more_than : (xs : List X) (ys : List Y) → Apart xs → ((x : X) → IsAmong x xs → (y : Y) × IsAmong y ys × Belongs x y) → length xs ≤ length ys
  no_more_than [] ys apart each = omega arith
  no_more_than (x ∷ xs) ys apart each =
      let first = each x (inl refl) in
      let others = leave_out first.0 ys first.1 in
      let fewer = no_more_than xs others.0 apart.1 (λ z i.
      let one = each z (inr i) in
      (one.0, elim (others.2 one.0 one.1) [ inl same ↦ absurd (apart.0 z first.0 i first.2 (subst (Belongs z) same one.2)) | inr other ↦ other ], one.2)) in
      omega (arith, others.1, fewer)

apart_by_place : (t : Trie) (root : ℕ) (ps : List (List ℕ)) → AreApart t root ps → Apart (λ p at. Leads t p root at) ps
apart_by_place t root [] apart = tt
apart_by_place t root (p ∷ ps) apart = (λ q at i a b. apart.0 q at i a b, apart_by_place t root ps apart.1)

-- if no two paths lead to one place, there are at most as many as in a list that holds all these places
pub no_more_paths : (t : Trie) (root : ℕ) (nodes : List ℕ) → ((path : List ℕ) (at : ℕ) → Leads t path root at → at < t.upto → IsAmong at nodes)
    → (ps : List (List ℕ)) → AreApart t root ps → ((p : List ℕ) → IsAmong p ps → Path t root p) → length ps ≤ length nodes
no_more_paths t root nodes all ps apart leads = no_more_than (λ p at. Leads t p root at) ps nodes (apart_by_place t root ps apart)
    (λ p i. let path = leads p i in (path.0, all p path.0 path.1 path.2, path.1))

pub within_nodes : {X E : Type 0} (t : Trie) (root old new : ℕ) (answer : Result X E) (nodes : List ℕ) → Visits t root old new answer
    → ((path : List ℕ) (at : ℕ) → Leads t path root at → at < t.upto → IsAmong at nodes) → new ≤ old + length nodes
within_nodes t root old new answer nodes visits all =
    let few = no_more_paths t root nodes all visits.paths visits.apart visits.lead in
    let count = visits.count in omega arith

pub in_range : (a n x : ℕ) → a ≤ x → x < a + n → IsAmong x (range_with_len a n)
in_range a zero x low high = absurd (omega arith)
in_range a (suc n) x low high = elim (cases_eq x a) [ inl here ↦ inl here | inr other ↦ inr (in_range (a + 1) n x (omega arith) (omega arith)) ]

-- and at most as many as the range has places
pub few_paths : (t : Trie) (root from : ℕ) → StartsFrom t from → from ≤ root → (ps : List (List ℕ)) → AreApart t root ps
    → ((p : List ℕ) → IsAmong p ps → Path t root p) → length ps ≤ t.upto - from
few_paths t root from starts low ps apart leads =
    let most = no_more_paths t root (range_with_len from (t.upto - from))
    (λ path at l inside. let above = leads_from t from starts path root at low l in in_range from (t.upto - from) at above (omega arith)) ps apart leads in
    let places = length-range_with_len from (t.upto - from) in omega arith

apart_in_order : (ps : List (List ℕ)) → AreInOrder ps → Apart (λ (p q : List ℕ). p ≡ q) ps
apart_in_order [] order = tt
apart_in_order (p ∷ ps) order = (λ q r i a b. not_before_itself p (subst (Before p) (b ∙ sym a) (order.0 q i)), apart_in_order ps order.1)

-- paths that lead to different places differ
apart_by_path : (t : Trie) (root : ℕ) (ps : List (List ℕ)) → AreApart t root ps → ((p : List ℕ) → IsAmong p ps → Path t root p)
    → Apart (λ (p q : List ℕ). p ≡ q) ps
apart_by_path t root [] apart leads = tt
apart_by_path t root (p ∷ ps) apart leads = (
  λ q r i a b. let path = leads p (inl refl) in apart.0 q path.0 i path.1 (subst (λ x. Leads t x root path.0) (a ∙ sym b) path.1),
  apart_by_path t root ps apart.1 (λ q i. leads q (inr i)),
)

pub of_paths : {X E : Type 0} (t : Trie) (root old new : ℕ) (x : X) (paths : List (List ℕ)) → Visits {E = E} t root old new (Ok x) → AreInOrder paths
    → ((p : List ℕ) → IsAmong p paths ↔ Path t root p) → new ≡ old + length paths
of_paths t root old new x paths visits order all =
    let most = no_more_than (λ (p q : List ℕ). p ≡ q) visits.paths paths (apart_by_path t root visits.paths visits.apart visits.lead)
    (λ p i. (p, (all p).1 (visits.lead p i), refl)) in
    let least = no_more_than (λ (p q : List ℕ). p ≡ q) paths visits.paths (apart_in_order paths order) (λ p i. (p, visits.all p ((all p).0 i), refl)) in
    let count = visits.count in omega arith

-- if some starts include the root and the children of each that is a node, they include all nodes to which paths lead

abbrev pub every : {X : Type 0} → (X → Bool) → List X → Bool
every test [] = true
every test (x ∷ xs) = cond (test x) (every test xs) false

abbrev pub is_in : ℕ → List ℕ → Bool
is_in n [] = false
is_in n (m ∷ ms) = cond (eqb n m) true (is_in n ms)

abbrev pub holds_children : ℕ → List ℕ → Result Node Fault → Bool
holds_children upto starts (Err f) = true
holds_children upto starts (Ok node) = every (λ b. cond (nat_le upto b.start) true (is_in b.start starts)) node.branches

-- the starts include the children of each
abbrev pub is_closed : Trie → List ℕ → Bool
is_closed t starts = every (λ at. holds_children t.upto starts (t.node at)) starts

both_true : (a b : Bool) → cond a b false ≡ true → (a ≡ true) × (b ≡ true)
both_true true b e = (refl, e)
both_true false b e = absurd (cc)

every_among : {X : Type 0} (test : X → Bool) (xs : List X) (x : X) → every test xs ≡ true → IsAmong x xs → test x ≡ true
every_among test [] x e i = absurd i
every_among test (y ∷ xs) x e i =
    elim i [
      | inl here ↦ ap test here
          ∙ (both_true (test y) (every test xs) e).0
      | inr there ↦ every_among test xs x (both_true (test y) (every test xs) e).1 there
    ]

every_at : {X : Type 0} (test : X → Bool) (xs : List X) (k : ℕ) (x : X) → every test xs ≡ true → slice_get xs k ≡ Some x → test x ≡ true
every_at test [] k x e at = absurd (cc)
every_at test (y ∷ xs) zero x e at = let same : y ≡ x = cc in subst (λ z. test z ≡ true) same (both_true (test y) (every test xs) e).0
every_at test (y ∷ xs) (suc k) x e at = every_at test xs k x (both_true (test y) (every test xs) e).1 at

is_in_true : (n : ℕ) (ms : List ℕ) → is_in n ms ≡ true → IsAmong n ms
is_in_true n [] e = absurd (cc)
is_in_true n (m ∷ ms) e = elim (cases_Bool (eqb n m)) [ inl same ↦ inl (eqb-true n m same) | inr other ↦ inr (is_in_true n ms (rw other at e)) ]

module _ (t : Trie) (starts : List ℕ) (closed : is_closed t starts ≡ true) where
  child_among : (at : ℕ) (node : Node) (k : ℕ) (b : Branch) → IsAmong at starts → t.node at ≡ Ok node → slice_get node.branches k ≡ Some b → (t.upto ≤ b.start)
      ⊎ IsAmong b.start starts
  child_among at node k b i is e =
      let children : holds_children t.upto starts (Ok node) ≡ true =
      rw is at (every_among (λ (x : ℕ). holds_children t.upto starts (t.node x)) starts at closed i) in
      let child = every_at (λ (c : Branch). cond (nat_le t.upto c.start) true (is_in c.start starts)) node.branches k b children e in
      elim (cases_Bool (nat_le t.upto b.start))
      [ inl out ↦ inl (leb-true t.upto b.start out) | inr inside ↦ inr (is_in_true b.start starts (rw inside at child)) ]

  pub all_among : (path : List ℕ) (from at : ℕ) → IsAmong from starts → Leads t path from at → at < t.upto → IsAmong at starts
  all_among [] from at i l inside = subst (λ x. IsAmong x starts) l i
  all_among (k ∷ ks) from at i l inside = elim (child_among from l.0 k l.1 i l.3 l.4) [
    | inl out ↦ absurd (let inner = leads_inside t ks l.1.start at l.5 inside in omega arith)
    | inr among ↦ all_among ks l.1.start at among l.5 inside
  ]
