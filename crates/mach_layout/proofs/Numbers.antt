-- The results for the numbers of a range.
use Rattle.std.proofs.Common.{◌≡◌, ℕ, zero, suc, ◌+◌, ◌-◌, ◌<◌, List, [], ◌∷◌, ◌++◌, Option, Some, None, refl, ap, sym, ◌∙◌, append_assoc, arith}
use Rattle.std.proofs.lemmas.List.{append-nil}
use Rattle.std.specs.List.{filter_map, range_with_len, cons_option}
use Rattle.mach_layout.specs.Symbols.{first_of_two, first_reported}
use Rattle.mach_layout.specs.declared.fault.LayoutFault.{LayoutFault}

cons_option-append : {Y : Type 0} (o : Option Y) (xs ys : List Y) → cons_option o (xs ++ ys) ≡ cons_option o xs ++ ys
cons_option-append None xs ys = refl
cons_option-append (Some y) xs ys = refl

-- one more number
reported-more : {Y : Type 0} (h : ℕ → Option Y) (a n : ℕ)
    → filter_map h (range_with_len a (suc n)) ≡ filter_map h (range_with_len a n) ++ cons_option (h (a + n)) []
reported-more h a zero = ap (λ (k : ℕ). cons_option (h k) []) (omega arith)
reported-more h a (suc n) =
    ap (λ rest. cons_option (h a) rest) (reported-more h (a + 1) n)
    ∙ cons_option-append (h a) _ _
    ∙ ap (λ (k : ℕ). filter_map h (range_with_len a (suc n)) ++ cons_option (h k) []) (omega arith)

reported-next : {Y : Type 0} (h : ℕ → Option Y) (n : ℕ)
    → filter_map h (range_with_len 0 (n + 1)) ≡ filter_map h (range_with_len 0 n) ++ cons_option (h n) []
reported-next h n =
    let one_more : n + 1 ≡ suc n = omega arith in
    let from_none : 0 + n ≡ n = omega arith in
    ap (λ (k : ℕ). filter_map h (range_with_len 0 k)) one_more
    ∙ reported-more h 0 n
    ∙ ap (λ (k : ℕ). filter_map h (range_with_len 0 n) ++ cons_option (h k) []) from_none

-- no result for the next number
pub reported_none : {Y : Type 0} (h : ℕ → Option Y) (old so_far : List Y) (n : ℕ)
    → so_far ≡ old ++ filter_map h (range_with_len 0 n) → h n ≡ None → so_far ≡ old ++ filter_map h (range_with_len 0 (n + 1))
reported_none h old so_far n before none =
    before
    ∙ sym (ap (λ reported. old ++ reported) (reported-next h n ∙ ap (λ o. filter_map h (range_with_len 0 n) ++ cons_option o []) none ∙ append-nil _))

-- a result for it
pub reported_some : {Y : Type 0} (h : ℕ → Option Y) (old so_far new : List Y) (n : ℕ) (y : Y)
    → so_far ≡ old ++ filter_map h (range_with_len 0 n) → h n ≡ Some y → new ≡ so_far ++ y ∷ []
    → new ≡ old ++ filter_map h (range_with_len 0 (n + 1))
reported_some h old so_far new n y before some pushed =
    pushed
    ∙ ap (λ reported. reported ++ y ∷ []) before
    ∙ append_assoc old _ _
    ∙ sym (ap (λ reported. old ++ reported) (reported-next h n ∙ ap (λ o. filter_map h (range_with_len 0 n) ++ cons_option o []) some))

-- ---- the first number with a result

-- it is this one
pub first_here : (report : ℕ → Option LayoutFault) (k upto : ℕ) (f : LayoutFault) → k < upto → report k ≡ Some f → Some f ≡ first_reported report k (upto - k)
first_here report k upto f inside here =
    let one_more : upto - k ≡ suc (upto - (k + 1)) = omega arith in
    sym (ap (λ (n : ℕ). first_reported report k n) one_more ∙ ap (λ o. first_of_two o (first_reported report (k + 1) (upto - (k + 1)))) here)

-- it is a later one
pub first_later : (report : ℕ → Option LayoutFault) (k upto : ℕ) → k < upto → report k ≡ None
    → first_reported report (k + 1) (upto - (k + 1)) ≡ first_reported report k (upto - k)
first_later report k upto inside here =
    let one_more : upto - k ≡ suc (upto - (k + 1)) = omega arith in
    sym (ap (λ (n : ℕ). first_reported report k n) one_more ∙ ap (λ o. first_of_two o (first_reported report (k + 1) (upto - (k + 1)))) here)

-- ---- lists of results, one after the other

pub then_reported : {Y : Type 0} (old before more so_far new : List Y) → so_far ≡ old ++ before → new ≡ so_far ++ more → new ≡ old ++ (before ++ more)
then_reported old before more so_far new front last = last ∙ ap (λ reported. reported ++ more) front ∙ append_assoc old before more
