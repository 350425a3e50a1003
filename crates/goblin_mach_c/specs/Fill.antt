-- What an array holds after rows were written into it, and a place after one row.
use Rattle.std.specs.Prelude.{◌≡◌, ◌++◌, ℕ, List, length, take, drop, min, Option, Some, None}

-- The start of the array has the first n of these rows, and the rest of the array is unchanged. These are as many as there are
-- and fit, and so no fewer.
pub record Fills {R : Type 0} (rows old new : List R) (n : ℕ) : Type 0 where
  pub count : n ≡ min (length rows) (length old)
  pub items : new ≡ take n rows ++ drop n old

-- A row that was found is written, and the number is 1. If there is none, the place is unchanged, and the number is 0.
abbrev pub WritesFound : {R : Type 0} → Option R → (old new : R) → ℕ → Type 0
WritesFound (Some row) old new n = (new ≡ row) × (n ≡ 1)
WritesFound None old new n = (new ≡ old) × (n ≡ 0)
