-- The values of all items, collected from the first on.
use Rattle.std.proofs.Common.{List, ◌++◌, Result, Ok}
use Rattle.mach_base.specs.Answer.{◌>>=◌}
use Rattle.mach_base.specs.Fault.{Fault}

-- some values, followed by the rest if it can be read
abbrev pub onto : {A : Type 0} → List A → Result (List A) Fault → Result (List A) Fault
onto front rest = rest >>= (λ xs. Ok (front ++ xs))
