use Rattle.std.proofs.Common.{◌≡◌, ◌-◌, length}
use Rattle.machinfo.specs.Parts.{uuid_rows_left}
use Rattle.machinfo.proofs.parts.UuidRows.take_next.Given as goal

abbrev pub invariant-commands : goal.invariant-commands
invariant-commands l = uuid_rows_left l.initial.self ≡ uuid_rows_left l.self

abbrev pub decreases-commands : goal.decreases-commands
decreases-commands l = length l.self.commands.now - l.self.number
