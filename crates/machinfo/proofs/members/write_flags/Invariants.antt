use Rattle.machinfo.specs.Summary.{WritesSome}
use Rattle.machinfo.proofs.members.write_flags.Given as goal

abbrev pub invariant-bits : goal.invariant-bits
invariant-bits g l = WritesSome (g.O.Write.contents l.fn.out) (g.O.Write.contents l.out)
