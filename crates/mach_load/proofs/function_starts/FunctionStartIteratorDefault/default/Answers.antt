use Rattle.std.proofs.Common.{[], arith}
use Rattle.mach_load.proofs.StartsRead.{none_left}
use Rattle.mach_load.proofs.function_starts.FunctionStartIteratorDefault.default.Goals as goal

pub returns : goal.returns
returns c = none_left [] 0 0 0 (omega arith)
