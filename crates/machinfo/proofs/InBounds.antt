-- No more items begin within the bytes than there are.
use Rattle.std.proofs.Common.{◌≡◌, refl, ◌≤◌, [], ◌∷◌, List, length, Result, arith}
use Rattle.std.specs.Prelude.{true, false}
use Rattle.mach_base.specs.Fault.{Fault}
use Rattle.mach_base.specs.Items.{items_in_bounds, is_past_the_end}

pub in_bounds_few : {A : Type 0} (items : List (Result A Fault)) → length (items_in_bounds items) ≤ length items
in_bounds_few [] = omega arith
in_bounds_few (item ∷ items) = elim (is_past_the_end item) as (λ t. is_past_the_end item ≡ t
    → length (items_in_bounds (item ∷ items)) ≤ length (item ∷ items)) [
      | true ↦ λ is. rw is (omega arith)
      | false ↦ λ is. rw is (omega (arith, in_bounds_few items))
    ] refl
