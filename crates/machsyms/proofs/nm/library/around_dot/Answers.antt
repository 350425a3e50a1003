use Rattle.std.proofs.Common.{sym, arith}
use Rattle.machsyms.proofs.Ends.{no_parts, parts_around}
use Rattle.machsyms.proofs.nm.library.around_dot.Goals as goal

pub returns-in-Some : goal.returns-in-Some
returns-in-Some c = parts_around 46 c.args.name.now (omega arith) c.in-Some.parts.0.now c.in-Some.parts.1.now c.in-Some.ensures.cases

pub returns-in-None : goal.returns-in-None
returns-in-None c =
    let none = no_parts 46 c.args.name.now (omega arith) c.in-None.ensures.cases in
    (sym none.1, sym none.0)
