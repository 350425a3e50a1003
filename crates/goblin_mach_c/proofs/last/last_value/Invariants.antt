use Rattle.std.proofs.Common.{◌≡◌, length}
use Rattle.std.specs.Prelude.{option_map}
use Rattle.goblin_mach.specs.Readings.{last_of, last_or, read_of}
use Rattle.goblin_mach_c.specs.CommandRows.{gm_commands_view, readable_commands_left}
use Rattle.goblin_mach_c.proofs.last.last_value.Given as goal

abbrev pub invariant-said : goal.invariant-said
invariant-said g l =
    last_or (option_map g.S.Subject.seen l.last) (read_of (g.S.Subject.reading l.subject) (readable_commands_left l.commands))
    ≡ last_of (read_of (g.S.Subject.reading l.subject) (gm_commands_view l.bytes l.image))

abbrev pub decreases-said : goal.decreases-said
decreases-said g l = length (readable_commands_left l.commands)
