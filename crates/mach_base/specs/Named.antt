-- Tables of numbers and their names.
use Rattle.std.specs.Prelude.{◌==◌, ℕ, List, [], ◌∷◌, Option, Some, None, if◌then◌else◌}

-- a number and its name
pub record Named : Type 0 where
  pub number : ℕ
  pub name : List ℕ

-- the name of a number in a table, or the other one if the table does not have it
abbrev pub name_or : List ℕ → List Named → ℕ → List ℕ
name_or other [] n = other
name_or other (x ∷ xs) n = if n == x.number then x.name else name_or other xs n

-- the name of a number in a table, if the table has it
abbrev pub name_among : List Named → ℕ → Option (List ℕ)
name_among [] n = None
name_among (x ∷ xs) n = if n == x.number then Some x.name else name_among xs n
