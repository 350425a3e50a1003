use Rattle.std.proofs.Common.{◌≡◌, ◌-◌, length}
use Rattle.machinfo.specs.OwnNames.{own_names_left}
use Rattle.machinfo.proofs.own_names.OwnNames.take_next.Given as goal

abbrev pub invariant-commands : goal.invariant-commands
invariant-commands l = own_names_left l.initial.self ≡ own_names_left l.self

abbrev pub decreases-commands : goal.decreases-commands
decreases-commands l = length l.self.commands.now - l.self.number
