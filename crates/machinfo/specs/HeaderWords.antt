-- The names of a header's flags.
use Rattle.std.specs.Prelude.{List, ℕ, codes, take, drop, bytes_eq, Option, Some, None, if◌then◌else◌}

-- a name without its prefix `MH_`, if it has that prefix
abbrev pub flag_short_name : List ℕ → Option (List ℕ)
flag_short_name name = if bytes_eq (take 3 name) (codes "MH_") then Some (drop 3 name) else None
