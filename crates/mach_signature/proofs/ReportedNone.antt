-- Nothing is reported exactly when there is nothing to report on any thing.
use Rattle.std.proofs.Common.{◌≡◌, ℕ, zero, suc, ◌+◌, ◌<◌, Bool, true, false, cond, List, [], ◌∷◌, ◌++◌, ◌⊎◌, inl, inr, Option, Some, None, refl, sym, ap}
use Rattle.std.proofs.Common.{subst, ◌∙◌, arith}
use Rattle.std.specs.Prelude.{filter_map, map, flat_map, option_to_list}
use Rattle.std.specs.List.{range_with_len, cons_option}
use Rattle.mach_signature.specs.Numbered.{reported_of}

-- ---- choices between something and nothing

pub if_none : {A : Type 0} (b : Bool) (x y : Option A) → cond b x y ≡ None → ((b ≡ true) × (x ≡ None)) ⊎ ((b ≡ false) × (y ≡ None))
if_none true x y e = inl (refl, e)
if_none false x y e = inr (refl, e)

-- a choice between nothing and something is nothing only if the test holds
pub none_if : {A : Type 0} (b : Bool) (x : A) → cond b None (Some x) ≡ None → b ≡ true
none_if true x e = refl
none_if false x e = absurd (cc)

pub some_if : {A : Type 0} (b : Bool) (x : A) → cond b (Some x) None ≡ None → b ≡ false
some_if true x e = absurd (cc)
some_if false x e = refl

cons_none : {A : Type 0} (o : Option A) (rest : List A) → cons_option o rest ≡ [] → (o ≡ None) × (rest ≡ [])
cons_none None rest e = (refl, e)
cons_none (Some x) rest e = absurd (cc)

-- ---- reports on numbered things

none_from : {V : Type 0} (reports : ℕ → Option V) (a n : ℕ) → filter_map reports (range_with_len a n) ≡ [] → (k : ℕ) → k < n → reports (a + k) ≡ None
none_from reports a zero e k below = absurd (omega (arith, below))
none_from reports a (suc n) e zero below =
    let here : a + 0 ≡ a = omega arith in
    ap reports here ∙ (cons_none (reports a) (filter_map reports (range_with_len (a + 1) n)) e).0
none_from reports a (suc n) e (suc k) below =
    let there : a + suc k ≡ (a + 1) + k = omega arith in
    ap reports there ∙ none_from reports (a + 1) n (cons_none (reports a) (filter_map reports (range_with_len (a + 1) n)) e).1 k (omega (arith, below))

from_none : {V : Type 0} (reports : ℕ → Option V) (a n : ℕ) → ((k : ℕ) → k < n → reports (a + k) ≡ None) → filter_map reports (range_with_len a n) ≡ []
from_none reports a zero all = refl
from_none reports a (suc n) all =
    let here : reports a ≡ None = ap reports (let same : a ≡ a + 0 = omega arith in same) ∙ all 0 (omega arith) in
    ap (λ o. cons_option o (filter_map reports (range_with_len (a + 1) n))) here
    ∙ from_none reports (a + 1) n (λ k below. ap reports (let same : (a + 1) + k ≡ a + suc k = omega arith in same) ∙ all (suc k) (omega (arith, below)))

pub reported_of-none : {V : Type 0} (reports : ℕ → Option V) (n : ℕ) → reported_of reports n ≡ [] → (k : ℕ) → k < n → reports k ≡ None
reported_of-none reports n e k below = ap reports (let same : k ≡ 0 + k = omega arith in same) ∙ none_from reports 0 n e k below

pub none-reported_of : {V : Type 0} (reports : ℕ → Option V) (n : ℕ) → ((k : ℕ) → k < n → reports k ≡ None) → reported_of reports n ≡ []
none-reported_of reports n all = from_none reports 0 n (λ k below. ap reports (let same : 0 + k ≡ k = omega arith in same) ∙ all k below)

-- ---- lists one after the other

pub both_empty : {A : Type 0} (xs ys : List A) → xs ++ ys ≡ [] → (xs ≡ []) × (ys ≡ [])
both_empty [] ys e = (refl, e)
both_empty (x ∷ xs) ys e = absurd (cc)

pub empty_both : {A : Type 0} (xs ys : List A) → xs ≡ [] → ys ≡ [] → xs ++ ys ≡ []
empty_both xs ys e f = rw (e, f) refl

pub map_empty : {A B : Type 0} (f : A → B) (xs : List A) → map f xs ≡ [] → xs ≡ []
map_empty f [] e = refl
map_empty f (x ∷ xs) e = absurd (cc)

pub listed_none : {A : Type 0} (o : Option A) → option_to_list o ≡ [] → o ≡ None
listed_none None e = refl
listed_none (Some x) e = absurd (cc)
