-- Marks of places, as bits.
use Rattle.std.specs.Prelude.{ℕ, ◌/◌, ◌%◌, Bool, List, map, ◌==◌, slice_index}
use Rattle.std.specs.List.{range_with_len}
use Rattle.std.specs.Int.{bit_at}

-- whether a place is marked: its bit, counted from the lowest of the first word
abbrev pub mark_of : List ℕ → ℕ → Bool
mark_of words at = bit_at (slice_index words (at / 64)) (at % 64) == 1

-- which of `len` places are marked
unfoldable pub marks_of : List ℕ → ℕ → List Bool
marks_of words len = map (mark_of words) (range_with_len 0 len)
