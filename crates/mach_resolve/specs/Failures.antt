-- Why a program can't be resolved.
use Rattle.std.specs.Prelude.{ℕ}
use Rattle.mach_base.specs.Fault.{Fault}
use Rattle.mach_base.specs.declared.error.Error.{Error}
use Rattle.mach_base.specs.declared.error.Error.TheVariants as errors
use Rattle.goblin_mach.specs.View.{ReportsFault}
use Rattle.mach_resolve.specs.declared.failure.ResolveFailure.{ResolveFailure}
use Rattle.mach_resolve.specs.declared.failure.ResolveFailure.TheVariants as failures

-- the failure for a file's error: the error with the file's number, unless an allocation was refused
abbrev pub reported_as : ℕ → Error → ResolveFailure
reported_as file (errors.Memory e) = failures.Memory
reported_as file error = failures.Refused file error

-- The failure is a fault that holds of a file, with the file's number, or a refused allocation.
abbrev pub IsFailure : (ℕ → Fault → Type 0) → ResolveFailure → Type 0
IsFailure FaultAt (failures.Refused file error) = ReportsFault (FaultAt file) error
IsFailure FaultAt failures.Memory = Unit {0}
