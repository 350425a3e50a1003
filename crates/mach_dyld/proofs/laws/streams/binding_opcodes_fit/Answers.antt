use Rattle.mach_dyld.proofs.OpcodesFit.{binding_opcodes_lem}
use Rattle.mach_dyld.proofs.laws.streams.binding_opcodes_fit.Goals as goal

pub returns : goal.returns
returns c = binding_opcodes_lem
