use Rattle.std.specs.Prelude.{codes}
use Rattle.machsyms.proofs.Written.{no_symbols}
use Rattle.machsyms.proofs.print.print_symbols.Goals as goal

-- the image has no table
pub returns-in-None : goal.returns-in-None
returns-in-None g c = rw c.in-None.is
    (no_symbols c.args.word.now (codes "symbols") c.args.limit c.args.left (g.O.Write.contents c.args.out.now))
