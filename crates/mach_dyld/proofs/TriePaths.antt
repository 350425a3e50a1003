-- Where paths of the trie lead.
use Rattle.mach_dyld.proofs.TrieNames.{◌≡◌, ◌<◌, ◌≤◌, ℕ, zero, suc, List, [], ◌∷◌, ◌++◌, drop, Option, Some, Ok, sym, subst, ◌∙◌, arith, slice_get, Result}
use Rattle.mach_dyld.proofs.TrieNames.{Branch}
use Rattle.mach_dyld.proofs.TrieNames.{Node, Trie, Leads, IsAmong, StartsFrom, Before, ◌⊎◌, inl, inr}

pub same_node : {X E : Type 0} {x y : X} {r : Result X E} → r ≡ Ok x → r ≡ Ok y → x ≡ y
same_node a b = cc

pub same_some : {X : Type 0} {x y : X} {o : Option X} → o ≡ Some x → o ≡ Some y → x ≡ y
same_some a b = cc

-- a path leads to one place
pub leads_to_one : (t : Trie) (p : List ℕ) (s a b : ℕ) → Leads t p s a → Leads t p s b → a ≡ b
leads_to_one t [] s a b x y = sym x ∙ y
leads_to_one t (k ∷ ks) s a b x y =
    let node : x.0 ≡ y.0 = same_node x.3 y.3 in
    let branch : x.1 ≡ y.1 = same_some x.4 (subst (λ (n : Node). slice_get n.branches k ≡ Some y.1) (sym node) y.4) in
    leads_to_one t ks x.1.start a b x.5 (subst (λ (c : Branch). Leads t ks c.start b) (sym branch) y.5)

pub leads_inside : (t : Trie) (ks : List ℕ) (s at : ℕ) → Leads t ks s at → at < t.upto → s < t.upto
leads_inside t [] s at l inside = subst (λ x. x < t.upto) (sym l) inside
leads_inside t (k ∷ ks) s at l inside = l.2

pub Leads-append : (t : Trie) (p q : List ℕ) (a b c : ℕ) → Leads t p a b → Leads t q b c → Leads t (p ++ q) a c
Leads-append t [] q a b c e h = subst (λ x. Leads t q x c) (sym e) h
Leads-append t (k ∷ ks) q a b c l h = (l.0, l.1, l.2, l.3, l.4, Leads-append t ks q l.1.start b c l.5 h)

-- the second part of a path
pub leads_after : (t : Trie) (p q : List ℕ) (a b c : ℕ) → Leads t p a b → Leads t (p ++ q) a c → Leads t q b c
leads_after t [] q a b c l all = subst (λ x. Leads t q x c) l all
leads_after t (k ∷ ks) q a b c l all =
    let node : all.0 ≡ l.0 = same_node all.3 l.3 in
    let branch : all.1 ≡ l.1 = same_some (subst (λ (x : Node). slice_get x.branches k ≡ Some all.1) node all.4) l.4 in
    leads_after t ks q l.1.start b c l.5 (subst (λ (x : Branch). Leads t (ks ++ q) x.start c) branch all.5)

pub leads_from : (t : Trie) (from : ℕ) → StartsFrom t from → (p : List ℕ) (a b : ℕ) → from ≤ a → Leads t p a b → from ≤ b
leads_from t from starts [] a b low l = subst (λ x. from ≤ x) l low
leads_from t from starts (k ∷ ks) a b low l = leads_from t from starts ks l.1.start b (starts a l.0 k l.1 l.3 l.4) l.5

pub not_before_itself : (p : List ℕ) → Before p p → ⊥
not_before_itself [] b = b
not_before_itself (x ∷ p) b = elim b [ inl less ↦ omega arith | inr same ↦ not_before_itself p same.1 ]

-- paths in one list or another

pub among_left : (p : List ℕ) (xs ys : List (List ℕ)) → IsAmong p xs → IsAmong p (xs ++ ys)
among_left p [] ys h = absurd h
among_left p (x ∷ xs) ys h = elim h [ inl e ↦ inl e | inr more ↦ inr (among_left p xs ys more) ]

pub among_right : (p : List ℕ) (xs ys : List (List ℕ)) → IsAmong p ys → IsAmong p (xs ++ ys)
among_right p [] ys h = h
among_right p (x ∷ xs) ys h = inr (among_right p xs ys h)

pub among_append : (p : List ℕ) (xs ys : List (List ℕ)) → IsAmong p (xs ++ ys) → IsAmong p xs ⊎ IsAmong p ys
among_append p [] ys h = inr h
among_append p (x ∷ xs) ys h = elim h [ inl e ↦ inl (inl e) | inr more ↦ elim (among_append p xs ys more) [ inl a ↦ inl (inr a) | inr b ↦ inr b ] ]

-- the branches from a number on

pub drop_head : {X : Type 0} (xs : List X) (k : ℕ) (x : X) (rest : List X) → drop k xs ≡ x ∷ rest → (slice_get xs k ≡ Some x) × (rest ≡ drop (suc k) xs)
drop_head [] zero x rest e = absurd (cc)
drop_head [] (suc k) x rest e = absurd (cc)
drop_head (y ∷ ys) zero x rest e = (cc, cc)
drop_head (y ∷ ys) (suc k) x rest e = drop_head ys k x rest e

pub nothing_there : {X : Type 0} (xs : List X) (n k : ℕ) (x : X) → drop n xs ≡ [] → n ≤ k → slice_get xs k ≡ Some x → ⊥
nothing_there [] n k x e le at = cc
nothing_there (y ∷ ys) zero k x e le at = cc
nothing_there (y ∷ ys) (suc n) zero x e le at = omega arith
nothing_there (y ∷ ys) (suc n) (suc k) x e le at = nothing_there ys n k x e (omega arith) at
