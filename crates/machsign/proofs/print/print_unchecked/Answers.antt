use Rattle.machsign.proofs.print.print_unchecked.Goals as goal

pub returns : goal.returns
returns g c = rw (c.why_unknown-why.ensures) at c.writeln.ensures.bytes
