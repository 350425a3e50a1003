-- Ranges have one arrangement by their starts, and so one list of faults of those that share a place.
use Rattle.std.proofs.Common.{◌≡◌, ℕ, suc, ◌≤◌, ◌<◌, ◌&&◌, not, Bool, true, false, cond, List, [], ◌∷◌, length, get_or, refl, sym, ap, ◌∙◌, arith}
use Rattle.std.proofs.Common.{inl, inr}
use Rattle.std.proofs.lemmas.Bool.Decides.{leb_tells}
use Rattle.std.proofs.lemmas.List.Sorted.{IsNonDecreasingBy-from_sort}
use Rattle.std.specs.Cmp.{nat_cmp_is}
use Rattle.std.specs.List.{filter}
use Rattle.std.specs.List.Sorted.{IsNonDecreasingBy, ties}
use Rattle.std.specs.Ordering.{is_lt, nat_cmp}
use Rattle.std.specs.declared.cmp.Ordering.TheVariants.{Less, Equal}
use Rattle.mach_layout.specs.Sweep.{IsByStart, AreShared, shared_after}
use Rattle.mach_layout.specs.declared.claim.Claim.{Claim}
use Rattle.mach_layout.specs.declared.fault.LayoutFault.{LayoutFault}
use Rattle.mach_layout.specs.declared.fault.Rule.{Rule}

-- a filter that no item passes
filter_none : {X : Type 0} (p : X → Bool) (xs : List X) → ((k : ℕ) (d : X) → k < length xs → p (get_or xs k d) ≡ false) → filter p xs ≡ []
filter_none p [] h = refl
filter_none p (x ∷ xs) h =
    ap (λ (b : Bool). cond b (x ∷ filter p xs) (filter p xs)) (h 0 x (omega arith))
    ∙ filter_none p xs (λ k d lt. h (suc k) d (omega (arith, lt)))

-- lists that agree with one item before them agree without it
kept : {X : Type 0} (b : Bool) (y : X) (xs zs : List X) → cond b (y ∷ xs) xs ≡ cond b (y ∷ zs) zs → xs ≡ zs
kept true y xs zs e = cc
kept false y xs zs e = e

neither : (a b : ℕ) → (a < b → ⊥) → (b < a → ⊥) → a ≡ b
neither a b above below =
    elim (leb_tells a b) [
      | inl p ↦ elim (leb_tells b a) [ inl q ↦ omega (arith, p.1, q.1) | inr q ↦ absurd (above q.1) ]
      | inr p ↦ absurd (below p.1)
    ]

module _ {X : Type 0} (n : X → ℕ) (t : X → X → Bool) (yes : (x y : X) → n x ≡ n y → t x y ≡ true) (no : (x y : X) → n x < n y → t x y ≡ false) where
  rises_after : (x : X) (xs : List X) → IsNonDecreasingBy n (x ∷ xs) → IsNonDecreasingBy n xs
  rises_after x xs h = λ i j d le lt. h (suc i) (suc j) d (omega (arith, le)) (omega (arith, lt))

  -- in a rising list, no item ties with a smaller one
  none_less : (y z : X) (zs : List X) → IsNonDecreasingBy n (z ∷ zs) → n y < n z → filter (t y) (z ∷ zs) ≡ []
  none_less y z zs h less = filter_none (t y) (z ∷ zs) (λ k d lt.
      let first : n z ≤ n (get_or (z ∷ zs) k d) = h 0 k d (omega arith) lt in
      no y (get_or (z ∷ zs) k d) (omega (arith, less, first)))

  first_kept : (y z : X) (zs : List X) → n y ≡ n z → filter (t y) (z ∷ zs) ≡ z ∷ filter (t y) zs
  first_kept y z zs e = ap (λ (b : Bool). cond b (z ∷ filter (t y) zs) (filter (t y) zs)) (yes y z e)

  not_less : (y z : X) (ys zs : List X) → IsNonDecreasingBy n (z ∷ zs) → filter (t y) (y ∷ ys) ≡ filter (t y) (z ∷ zs) → n y < n z → ⊥
  not_less y z ys zs h same less =
      let e : y ∷ filter (t y) ys ≡ [] = sym (first_kept y y ys refl) ∙ same ∙ none_less y z zs h less in cc

  -- two rising lists that have, for each item, the same items that tie with it in the same order, are equal
  pub one_rising : (ys zs : List X) → IsNonDecreasingBy n ys → IsNonDecreasingBy n zs → ((x : X) → filter (t x) ys ≡ filter (t x) zs) → ys ≡ zs
  one_rising [] [] h g same = refl
  one_rising [] (z ∷ zs) h g same = absurd (let e : [] ≡ z ∷ filter (t z) zs = same z ∙ first_kept z z zs refl in cc)
  one_rising (y ∷ ys) [] h g same = absurd (let e : y ∷ filter (t y) ys ≡ [] = sym (first_kept y y ys refl) ∙ same y in cc)
  one_rising (y ∷ ys) (z ∷ zs) h g same =
      let equal : n y ≡ n z = neither (n y) (n z) (not_less y z ys zs g (same y)) (not_less z y zs ys h (sym (same z))) in
      let heads : y ∷ filter (t y) ys ≡ z ∷ filter (t y) zs = sym (first_kept y y ys refl) ∙ same y ∙ first_kept y z zs equal in
      let first : y ≡ z = cc in
      let rest : ys ≡ zs =
      one_rising ys zs (rises_after y ys h) (rises_after z zs g)
      (λ x. kept (t x y) y (filter (t x) ys) (filter (t x) zs) (same x ∙ ap (λ (w : X). filter (t x) (w ∷ zs)) (sym first))) in
      ap (λ (w : X). w ∷ ys) first ∙ ap (λ (ws : List X). z ∷ ws) rest

-- ---- ranges

-- by their starts, the first of two comes before the second
abbrev before : Claim → Claim → Bool
before x y = is_lt (nat_cmp x.start y.start)

tie_equal : (x y : Claim) → x.start ≡ y.start → ties before x y ≡ true
tie_equal x y e =
    ap (λ o. not (is_lt o) && not (is_lt (nat_cmp y.start x.start))) (sym (nat_cmp_is x.start y.start Equal e))
    ∙ ap (λ o. not (is_lt Equal) && not (is_lt o)) (sym (nat_cmp_is y.start x.start Equal (sym e)))

less_apart : (x y : Claim) → x.start < y.start → ties before x y ≡ false
less_apart x y less = ap (λ o. not (is_lt o) && not (is_lt (nat_cmp y.start x.start))) (sym (nat_cmp_is x.start y.start Less less))

-- there is one arrangement by starts
pub one_by_start : (ranges xs ys : List Claim) → IsByStart ranges xs → IsByStart ranges ys → xs ≡ ys
one_by_start ranges xs ys p q =
    one_rising (λ (r : Claim). r.start) (ties before) tie_equal less_apart xs ys
    (IsNonDecreasingBy-from_sort (λ (r : Claim). r.start) xs p.ordered) (IsNonDecreasingBy-from_sort (λ (r : Claim). r.start) ys q.ordered)
    (λ x. p.stable x ∙ sym (q.stable x))

-- the faults of ranges that share a place are one list
pub one_shared : (rule : Rule) (ranges : List Claim) (reported others : List LayoutFault) → AreShared rule ranges reported → AreShared rule ranges others
    → reported ≡ others
one_shared rule ranges reported others p q =
    p.each ∙ ap (λ (sorted : List Claim). shared_after rule [] sorted) (one_by_start ranges p.sorted q.sorted p.by_start q.by_start) ∙ sym q.each
