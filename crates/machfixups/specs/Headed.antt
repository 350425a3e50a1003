-- A heading above the rows of a list.
use Rattle.std.specs.Prelude.{List, [], ◌∷◌, ◌++◌, ℕ, Bool, Result, Ok, Err, if◌then◌else◌}
use Rattle.mach_base.specs.Fault.{Fault}

-- The texts of rows with a line before the first one that can be read; the line has its line feed.
abbrev pub headed : (heading : List ℕ) → List (Result (List ℕ) Fault) → List (Result (List ℕ) Fault)
headed heading [] = []
headed heading (Ok text ∷ rows) = Ok (heading ++ text) ∷ rows
headed heading (Err fault ∷ rows) = Err fault ∷ headed heading rows

-- the same, if the line isn't written
abbrev pub headed_unless : (is_written : Bool) → (heading : List ℕ) → List (Result (List ℕ) Fault) → List (Result (List ℕ) Fault)
headed_unless is_written heading rows = if is_written then rows else headed heading rows
