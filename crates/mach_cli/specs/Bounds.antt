-- How many items of a list are visited.
use Rattle.std.specs.Prelude.{ℕ, List, Option, Some, None, length, max, min}

-- no more than a limit, and no more than the file has bytes
abbrev pub most_items : (limit : ℕ) → (bytes : List ℕ) → ℕ
most_items limit bytes = min limit (length bytes)

-- how many images of a file are shown if it has so many lines: as many, and one at least
abbrev pub most_images : (limit : ℕ) → ℕ
most_images limit = max limit 1

-- the limit of a call, or the one that a program has if none is given
abbrev pub limit_of : Option ℕ → (otherwise : ℕ) → ℕ
limit_of (Some limit) otherwise = limit
limit_of None otherwise = otherwise
