use Rattle.std.proofs.Common.{◌≡◌, map, drop}
use Rattle.mach_load.specs.Variants.{command_of}
use Rattle.goblin_mach.specs.Readings.{read_of, first_of}
use Rattle.goblin_mach.proofs.readings.first_readable.Given as goal

abbrev pub invariant-loop-command : goal.invariant-loop-command
invariant-loop-command g l =
    first_of (read_of (g.S.Subject.reading l.subject) (drop l.command-index (map command_of l.commands))) ≡ first_of
    (read_of (g.S.Subject.reading l.subject) (map command_of l.commands))
