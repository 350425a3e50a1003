use Rattle.mach_dyld.proofs.BindNames.{refl}
use Rattle.mach_dyld.proofs.StreamStops.{left_at_end, after_end}
use Rattle.mach_dyld.proofs.imports.stream.Stream.finish.Goals as goal

pub returns-clause-before : goal.returns-clause-before
returns-clause-before g c = (left_at_end g.M.BindRules.rules g.M.BindRules.reads c.args.self.now c.requires).0

pub returns-clause-items : goal.returns-clause-items
returns-clause-items g c = (after_end g.M.BindRules.rules g.M.BindRules.reads _ refl).0

pub returns-clause-reads_before : goal.returns-clause-reads_before
returns-clause-reads_before g c = (left_at_end g.M.BindRules.rules g.M.BindRules.reads c.args.self.now c.requires).1

pub returns-clause-reads : goal.returns-clause-reads
returns-clause-reads g c = (after_end g.M.BindRules.rules g.M.BindRules.reads _ refl).1
