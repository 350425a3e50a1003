use Rattle.std.proofs.Common.{◌+◌, arith}
use Rattle.mach_load.proofs.StartsRead.{none_left}
use Rattle.goblin_mach_c.proofs.starts.StartRows.past.Goals as goal

pub returns-clause-left : goal.returns-clause-left
returns-clause-left c = let n = c.args.command.now.dataoff + c.args.command.now.datasize in none_left _ n n 0 (omega arith)
