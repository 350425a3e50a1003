use Rattle.mach_dyld.proofs.OpcodesFit.{weak_opcodes_lem}
use Rattle.mach_dyld.proofs.laws.streams.weak_opcodes_fit.Goals as goal

pub returns : goal.returns
returns c = weak_opcodes_lem
