-- The stage of a cursor.
use Rattle.std.specs.Prelude.{◌==◌, ℕ, if◌then◌else◌}

pub data Stage : Type 0 where
  start : Stage
  under_way : Stage
  over : Stage

-- 0 is the start, 1 is at its other numbers, and any other number is the end
abbrev pub stage_of : ℕ → Stage
stage_of n = if n == 0 then start else (if n == 1 then under_way else over)
