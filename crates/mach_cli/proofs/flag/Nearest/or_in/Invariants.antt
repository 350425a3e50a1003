use Rattle.mach_cli.specs.Misuses.{AreNear}
use Rattle.mach_cli.proofs.flag.Nearest.or_in.Given as goal

abbrev pub invariant-lines : goal.invariant-lines
invariant-lines g l = AreNear l.fn.word l.fn.self → AreNear l.fn.word l.nearest
