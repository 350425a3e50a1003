use Rattle.std.proofs.Common.{◌≡◌, length}
use Rattle.goblin_mach_c.specs.CommandRows.{readable_commands_left}
use Rattle.goblin_mach_c.specs.PartRows.{rows_of}
use Rattle.goblin_mach_c.proofs.picked.PickedRows.next.Given as goal

abbrev pub invariant-commands : goal.invariant-commands
invariant-commands g l =
    rows_of (g.P.Pick.picked l.initial.self.what) (readable_commands_left l.initial.self.commands)
    ≡ rows_of (g.P.Pick.picked l.self.what) (readable_commands_left l.self.commands)

abbrev pub decreases-commands : goal.decreases-commands
decreases-commands g l = length (readable_commands_left l.self.commands)
