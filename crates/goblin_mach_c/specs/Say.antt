-- What an array holds after rows for the items of a list were written to it.
use Rattle.std.specs.Prelude.{◌≡◌, ◌++◌, ℕ, List, [], ◌∷◌, Option, Some, None, length, take, drop, min}

-- each row is that of the item at its index, and there are as many rows as items
abbrev pub AllSay : {I R : Type 0} → (I → R → Type 0) → List I → List R → Type 0
AllSay Says [] [] = Unit {0}
AllSay Says (i ∷ items) [] = ⊥
AllSay Says [] (r ∷ rows) = ⊥
AllSay Says (i ∷ items) (r ∷ rows) = Says i r × AllSay Says items rows

-- The start of the array has rows for the first n of these items, and the rest of the array is unchanged. These are as many as
-- there are and fit, and so no fewer.
pub record FillsBy {I R : Type 0} (Says : I → R → Type 0) (items : List I) (old new : List R) (n : ℕ) : Type 0 where
  pub count : n ≡ min (length items) (length old)
  pub rows : List R
  pub say : AllSay Says (take n items) rows
  pub are : new ≡ rows ++ drop n old

-- the row is that of the first of the items before, and the others are left; none if there are none
abbrev pub SaysFirst : {I R : Type 0} → (I → R → Type 0) → List I → Option R → List I → Type 0
SaysFirst Says before None after = (before ≡ []) × (after ≡ [])
SaysFirst {I} Says before (Some row) after = (i : I) × (before ≡ i ∷ after) × Says i row
