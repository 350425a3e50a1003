-- The first elements of a list.
use Rattle.std.proofs.Common.{◌≡◌, ◌∷◌, ◌∙◌, ℕ, suc, List, ap}
use Rattle.std.specs.Prelude.{take}

-- the first element of a list, if the limit allows one more than n
pub taken_first : {X : Type 0} (limit n : ℕ) (here : List X) (x : X) (rest : List X) → here ≡ x ∷ rest → limit ≡ suc n
    → take limit here ≡ x ∷ take n rest
taken_first limit n here x rest is some = ap (λ m. take m here) some ∙ ap (λ xs. take (suc n) xs) is
