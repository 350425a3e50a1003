-- The marks of a walk or a search: one for each place to which a path was followed.
use Rattle.mach_dyld.proofs.TrieNames.{◌≡◌, ◌<◌, ◌≤◌, ◌+◌, ◌-◌, ℕ, zero, suc, Bool, true, false, cond, List, [], ◌∷◌, inl, inr, length, set, get_or, replicate}
use Rattle.mach_dyld.proofs.TrieNames.{refl, sym, ap, subst, ◌∙◌, arith, cases_eq, length-set, length-replicate, get_or-set_same, get_or-set_other, sum_by-set}
use Rattle.mach_dyld.proofs.TrieNames.{Trie, Entry, Leads, IsAmong, AreMarked, MarksThoseRead, ComesNext, WasRead, Ahead, Unfolds, unmarked}
use Rattle.mach_dyld.proofs.OneReading.{one_comes_next}
use Rattle.mach_dyld.proofs.TriePaths.{leads_to_one}

pub not_both : {b : Bool} → b ≡ true → b ≡ false → ⊥
not_both a b = cc

pub all_clear : (n o : ℕ) → get_or (replicate n false) o false ≡ false
all_clear zero o = refl
all_clear (suc n) zero = refl
all_clear (suc n) (suc o) = all_clear n o

pub keeps_mark : (marks : List Bool) (o i : ℕ) → o < length marks → get_or marks i false ≡ true → get_or (set marks o true) i false ≡ true
keeps_mark marks o i within e = elim (cases_eq i o) [
  | inl here ↦ subst (λ x. get_or (set marks o true) x false ≡ true) (sym here) (get_or-set_same marks o true false within)
  | inr other ↦ get_or-set_other marks o i true false other ∙ e
]

-- one mark fewer is still to be set
pub one_less : (marks : List Bool) (i : ℕ) → i < length marks → get_or marks i false ≡ false → unmarked marks ≡ suc (unmarked (set marks i true))
one_less marks i within clear =
    let sums = sum_by-set (λ (b : Bool). cond b 0 1) marks i true false within in
    let was : ◌≡◌ {A = ℕ} (cond (get_or marks i false) 0 1) 1 = rw clear refl in omega arith

pub none_marked : (t : Trie) (root from : ℕ) → AreMarked t root from (replicate (t.upto - from) false) []
none_marked t root from = record {
  size = length-replicate (t.upto - from) false;
  apart = tt;
  marked = λ p at i. absurd i;
  met = λ o is. absurd (not_both is (all_clear (t.upto - from) o));
}

-- the place to which a path leads
module _ {t : Trie} {root from : ℕ} {marks : List Bool} {paths : List (List ℕ)} (h : AreMarked t root from marks paths)
    (p : List ℕ) {at : ℕ} (lead : Leads t p root at) (low : from ≤ at) where
  pub within : at < t.upto → at - from < length marks
  within inside = let size = h.size in omega arith

  -- a marked place was met on another path
  pub met : get_or marks (at - from) false ≡ true → (q : List ℕ) × IsAmong q paths × Leads t q root at
  met marked =
      let old = h.met (at - from) marked in
      let same : from + (at - from) ≡ at = omega arith in
      (old.0, old.1, subst (λ x. Leads t old.0 root x) same old.2)

  -- a place that wasn't marked is marked now
  pub one_marked : at < t.upto → get_or marks (at - from) false ≡ false → AreMarked t root from (set marks (at - from) true) (p ∷ paths)
  one_marked inside clear =
      let there = within inside in
      record {
        size = length-set marks (at - from) true ∙ h.size;
        apart = (
          λ q a i x y. not_both (h.marked q a i y) (ap (λ z. get_or marks (z - from) false) (leads_to_one t p root a at x lead) ∙ clear),
          h.apart,
        );
        marked = λ q a i x. elim i [
          | inl e ↦ (let same : a ≡ at = leads_to_one t p root a at (subst (λ z. Leads t z root a) e x) lead in
              subst (λ z. get_or (set marks (at - from) true) (z - from) false ≡ true) (sym same) (get_or-set_same marks (at - from) true false there))
          | inr old ↦ keeps_mark marks (at - from) (a - from) there (h.marked q a old x)
        ];
        met = λ o is. elim (cases_eq o (at - from)) [
          | inl here ↦ (p, inl refl, (let same : at ≡ from + o = omega arith in subst (λ z. Leads t p root z) same lead))
          | inr other ↦ (let old = h.met o (sym (get_or-set_other marks (at - from) o true false other) ∙ is) in (old.0, inr old.1, old.2))
        ];
      }

-- ---- the marks of what was read

pub none_read : (t : Trie) (root n : ℕ) → MarksThoseRead t root (replicate n false) 0
none_read t root n = record {
  once = λ fewer start less comes was. omega arith;
  marked = λ start was. absurd (let less = was.1 in omega arith);
  met = λ o is. absurd (not_both is (all_clear n o));
}

-- the next node is marked and read
pub one_read : {t : Trie} {root n : ℕ} {marks : List Bool} {found : List Entry} {x : Ahead} {others : List Ahead} → MarksThoseRead t root marks n
    → Unfolds t root n found (x ∷ others) → x.start < t.upto → root ≤ x.start → x.start - root < length marks
    → get_or marks (x.start - root) false ≡ false → MarksThoseRead t root (set marks (x.start - root) true) (suc n)
one_read {t} {root} {n} {marks} {found} {x} {others} h read inside low within clear = record {
  once = λ fewer start less comes was. elim (cases_eq fewer n) [
    | inl last ↦ (
        let same = one_comes_next (subst (λ (k : ℕ). ComesNext t root k start) last comes) read inside in
        let marked = h.marked start (subst (λ (k : ℕ). WasRead t root k start) last was) in
        not_both (subst (λ (z : ℕ). get_or marks (z - root) false ≡ true) same marked) clear)
    | inr old ↦ h.once fewer start (omega arith) comes was
  ];
  marked = λ start was. elim (cases_eq was.0 n) [
    | inl last ↦ (
        let same = one_comes_next (subst (λ (k : ℕ). ComesNext t root k start) last was.2) read inside in
        subst (λ (z : ℕ). get_or (set marks (x.start - root) true) (z - root) false ≡ true) (sym same)
        (get_or-set_same marks (x.start - root) true false within))
    | inr old ↦ (let less = was.1 in keeps_mark marks (x.start - root) (start - root) within (h.marked start (was.0, omega arith, was.2)))
  ];
  met = λ o is. elim (cases_eq o (x.start - root)) [
    | inl here ↦ (
        let same : x.start ≡ root + o = omega arith in (
          n,
          omega arith,
          subst (λ (z : ℕ). ComesNext t root n z) same (record { inside = inside; met = found; name = x.name; others = others; read = read }),
        ))
    | inr other ↦ (
        let old = h.met o (sym (get_or-set_other marks (x.start - root) o true false other) ∙ is) in
        let less = old.1 in (old.0, omega arith, old.2))
  ];
}
