use Rattle.mach_cli.specs.Misuses.{AreNear}
use Rattle.mach_cli.proofs.program.Program.meant_by.Given as goal

abbrev pub invariant-lines : goal.invariant-lines
invariant-lines g l = AreNear l.fn.word l.nearest
