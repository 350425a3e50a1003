-- Why an image is not shown.
use Rattle.mach_cli.specs.declared.failure.ShowFailure.{ShowFailure}
use Rattle.mach_cli.specs.declared.failure.ShowFailure.TheVariants.{Memory, Unwritten}

-- P holds if memory ran out
abbrev pub IfMemory : Type 0 → ShowFailure → Type 0
IfMemory P Memory = P
IfMemory P (Unwritten e) = Unit {0}
