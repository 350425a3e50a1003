-- A test of the views of a list's elements.
use Rattle.std.proofs.Common.{◌≡◌, List, Bool, [], ◌∷◌, map, refl, ap}
use Rattle.std.specs.Prelude.{◌||◌}
use Rattle.std.specs.List.{list_any}

-- some element's view passes a test
pub any_of_views : {X Y : Type 0} (view : X → Y) (p : Y → Bool) (xs : List X) → list_any p (map view xs) ≡ list_any (λ x. p (view x)) xs
any_of_views view p [] = refl
any_of_views view p (x ∷ xs) = ap (λ (b : Bool). p (view x) || b) (any_of_views view p xs)
