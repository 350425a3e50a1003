-- Sums and items that a format may require and a file may not have.
use Rattle.std.specs.Prelude.{ℕ, ◌+◌, ◌^◌, Option, Some, None, Result, Ok, Err, nat_lt, if◌then◌else◌}
use Rattle.mach_base.specs.Fault.{Fault, malformed}

-- a sum, if it fits 64 bits
abbrev pub sum_of : ℕ → ℕ → Result ℕ Fault
sum_of a b = if nat_lt (a + b) (2 ^ 64) then Ok (a + b) else Err malformed

-- the value, if there is one
abbrev pub found_or_malformed : {A : Type 0} → Option A → Result A Fault
found_or_malformed None = Err malformed
found_or_malformed (Some x) = Ok x
