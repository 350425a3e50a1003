use Rattle.mach_dyld.proofs.BindNames.{arith}
use Rattle.mach_dyld.proofs.StreamStops.{after_end}
use Rattle.mach_dyld.proofs.imports.stream.Stream.step.Goals as goal

pub returns-then-self-clause-end : goal.returns-then-self-clause-end
returns-then-self-clause-end g c = let e = (after_end g.M.BindRules.rules g.M.BindRules.reads c.args.self.now c.if-self.true).0 in (e, e)

pub returns-then-self-clause-none : goal.returns-then-self-clause-none
returns-then-self-clause-none g c =
    let e = (after_end g.M.BindRules.rules g.M.BindRules.reads c.args.self.now c.if-self.true).1 in omega (arith, e)
