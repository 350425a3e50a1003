-- The value of the last command about a subject, one command after the other.
use Rattle.std.proofs.Common.{◌≡◌, List, Option, Some, None, Result, Ok, Err, refl}
use Rattle.mach_base.specs.Fault.{Fault}
use Rattle.goblin_mach.specs.Readings.{keep, last_or, values_read}

-- the value of one command comes before the values of those after it
pub last_keeps : {V : Type 0} (last : Option V) (found : Option (Result V Fault)) (rest : List V)
    → last_or last (keep found rest) ≡ last_or (last_or last (values_read found)) rest
last_keeps last None rest = refl
last_keeps last (Some (Ok v)) rest = refl
last_keeps last (Some (Err f)) rest = refl
