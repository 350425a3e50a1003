-- Rows for items by their index.
use Rattle.std.proofs.Common.{◌≡◌, ◌+◌, ◌∷◌, ℕ, zero, suc, map, refl, ap}
use Rattle.mach_base.specs.Items.{items_from}

pub rows_of_items : {A R : Type 0} (row : A → R) (item : ℕ → A) (first count : ℕ)
    → map row (items_from item first count) ≡ items_from (λ k. row (item k)) first count
rows_of_items row item first zero = refl
rows_of_items row item first (suc count) = ap (λ rows. row (item first) ∷ rows) (rows_of_items row item (first + 1) count)
