use Rattle.std.proofs.Common.{◌≡◌, length, false}
use Rattle.goblin_mach_c.specs.CommandRows.{readable_commands_left}
use Rattle.goblin_mach_c.specs.Listed.{listed_in, listed_left, part_left}
use Rattle.goblin_mach_c.proofs.listed.ListedRows.next.Given as goal

abbrev pub invariant-commands : goal.invariant-commands
invariant-commands g l =
    (listed_left g.L.Lists.shown l.initial.self.ended (part_left (g.L.Lists.left l.initial.self.what) l.initial.self.part)
    (listed_in (g.L.Lists.lists l.initial.self.what) (readable_commands_left l.initial.self.commands))
    ≡ listed_left g.L.Lists.shown l.self.ended (part_left (g.L.Lists.left l.self.what) l.self.part)
    (listed_in (g.L.Lists.lists l.self.what) (readable_commands_left l.self.commands)))
    × (l.self.ended ≡ false)

abbrev pub decreases-commands : goal.decreases-commands
decreases-commands g l = length (readable_commands_left l.self.commands)
