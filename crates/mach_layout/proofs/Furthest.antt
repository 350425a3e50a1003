-- The furthest of some ranges and one more, and its fault.
use Rattle.std.proofs.Common.{◌≡◌, ◌<◌, ℕ, ◌+◌, List, [], ◌∷◌, ◌++◌, take, drop, length, get_or, Option, Some, None, refl, sym, ap, ◌∙◌, append_assoc, add-one}
use Rattle.std.proofs.lemmas.List.{take_more}
use Rattle.std.proofs.Math.Seq.{drop-cons}
use Rattle.std.specs.List.{cons_option}
use Rattle.std.specs.Prelude.{option_to_list}
use Rattle.mach_layout.specs.Sweep.{further, furthest_from, furthest, shared, shared_after}
use Rattle.mach_layout.specs.declared.fault.LayoutFault.{LayoutFault}
use Rattle.mach_layout.specs.declared.fault.Rule.{Rule}
use Rattle.mach_layout.specs.declared.claim.Claim.{Claim}

from_more : (f : Option Claim) (rs : List Claim) (r : Claim) → furthest_from f (rs ++ r ∷ []) ≡ Some (further (furthest_from f rs) r)
from_more f [] r = refl
from_more f (s ∷ rs) r = from_more (Some (further f s)) rs r

-- the furthest of the first ranges and the next one
pub furthest_next : (rs : List Claim) (k : ℕ) (d : Claim) → k < length rs → furthest (take (k + 1) rs) ≡ Some (further (furthest (take k rs)) (get_or rs k d))
furthest_next rs k d lt = ap furthest (take_more rs k d lt) ∙ from_more None (take k rs) (get_or rs k d)

onto : (o : Option LayoutFault) (xs ys : List LayoutFault) → (xs ++ option_to_list o) ++ ys ≡ xs ++ cons_option o ys
onto None xs ys = append_assoc xs [] ys
onto (Some x) xs ys = append_assoc xs (x ∷ []) ys

-- the fault of the next range comes before the faults of those after it
pub reported_next : (rule : Rule) (fs : List LayoutFault) (rs : List Claim) (k : ℕ) (d : Claim) → k < length rs
    → (fs ++ option_to_list (shared rule (furthest (take k rs)) (get_or rs k d))) ++ shared_after rule (take (k + 1) rs) (drop (k + 1) rs)
    ≡ fs ++ shared_after rule (take k rs) (drop k rs)
reported_next rule fs rs k d lt =
    let before = take k rs in
    let r = get_or rs k d in
    let here : drop k rs ≡ r ∷ drop (k + 1) rs = rw add-one (drop-cons rs k d lt) in
    onto (shared rule (furthest before) r) fs (shared_after rule (take (k + 1) rs) (drop (k + 1) rs))
    ∙ ap (λ (b : List Claim). fs ++ cons_option (shared rule (furthest before) r) (shared_after rule b (drop (k + 1) rs))) (take_more rs k d lt)
    ∙ ap (λ (left : List Claim). fs ++ shared_after rule before left) (sym here)

-- the furthest, after the next one was taken
pub furthest_here : (rs : List Claim) (k : ℕ) (d : Claim) (f : Option Claim) (r : Claim) → k < length rs → f ≡ furthest (take k rs)
    → r ≡ further f (get_or rs k d) → Some r ≡ furthest (take (k + 1) rs)
furthest_here rs k d f r lt was is =
    ap Some (is ∙ ap (λ (o : Option Claim). further o (get_or rs k d)) was) ∙ sym (furthest_next rs k d lt)
