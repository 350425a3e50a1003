use Rattle.mach_dyld.proofs.OpcodesFit.{rebase_opcodes_lem}
use Rattle.mach_dyld.proofs.laws.streams.rebase_opcodes_fit.Goals as goal

pub returns : goal.returns
returns c = rebase_opcodes_lem
