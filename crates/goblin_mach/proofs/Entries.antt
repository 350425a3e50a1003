-- Results as contracts see them.
use Rattle.std.proofs.Common.{◌≡◌, Some, Result, Ok, Err, sym, ap}
use Rattle.mach_base.specs.declared.error.Error.{Error}
use Rattle.mach_base.specs.Answer.{Reads}
use Rattle.mach_base.specs.Fault.{Fault}
use Rattle.goblin_mach.specs.Readings.{view_of_read}

-- a result that reads what is there is seen as that
pub seen_read : {X V : Type 0} (view : X → V) (r : Result X Error) (there : Result V Fault) → Reads view r there → view_of_read view (Some r) ≡ Some there
seen_read view (Ok x) there reads = ap (λ (t : Result _ Fault). Some t) (sym reads)
seen_read view (Err e) there reads = ap (λ (t : Result _ Fault). Some t) (sym reads)
