use Rattle.std.proofs.Common.{◌≡◌, map, option_map, drop}
use Rattle.mach_load.specs.Variants.{command_of}
use Rattle.goblin_mach.specs.Readings.{read_of, first_of, AllRead}
use Rattle.goblin_mach.proofs.CommandReadings.{first_or}
use Rattle.goblin_mach.proofs.readings.first_read.Given as goal

abbrev pub invariant-loop-command : goal.invariant-loop-command
invariant-loop-command g l =
    let reading = g.S.Subject.reading l.subject in
    let left = drop l.command-index (map command_of l.commands) in
    record {
      found : first_or (option_map g.S.Subject.seen l.first) (read_of reading left) ≡ first_of (read_of reading (map command_of l.commands));
      all : AllRead reading left → AllRead reading (map command_of l.commands);
    }
