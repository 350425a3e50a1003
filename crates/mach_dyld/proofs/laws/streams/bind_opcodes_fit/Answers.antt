use Rattle.mach_dyld.proofs.OpcodesFit.{whole_opcodes_lem, cut_opcodes_lem}
use Rattle.mach_dyld.proofs.laws.streams.bind_opcodes_fit.Goals as goal

pub returns-clause-whole : goal.returns-clause-whole
returns-clause-whole c = whole_opcodes_lem

pub returns-clause-cut : goal.returns-clause-cut
returns-clause-cut c = cut_opcodes_lem
