use Rattle.std.proofs.Common.{◌≡◌, map, option_map, take}
use Rattle.mach_load.specs.Variants.{command_of}
use Rattle.goblin_mach.specs.Readings.{read_of, last_of}
use Rattle.goblin_mach.proofs.fixups.last_readable.Given as goal

abbrev pub invariant-loop-command : goal.invariant-loop-command
invariant-loop-command g l =
    option_map g.S.Subject.seen l.last ≡ last_of (read_of (g.S.Subject.reading l.subject) (take l.command-index (map command_of l.commands)))
