use Rattle.std.proofs.Common.{[], arith}
use Rattle.mach_load.proofs.StartsRead.{none_left}
use Rattle.goblin_mach_c.proofs.starts.StartRows.none.Goals as goal

pub returns-clause-left : goal.returns-clause-left
returns-clause-left c = none_left [] 0 0 0 (omega arith)
