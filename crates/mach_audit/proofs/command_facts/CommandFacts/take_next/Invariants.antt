use Rattle.std.proofs.Common.{◌≡◌, ◌-◌, length}
use Rattle.mach_audit.specs.FactRows.{facts_left}
use Rattle.mach_audit.proofs.command_facts.CommandFacts.take_next.Given as goal

abbrev pub invariant-commands : goal.invariant-commands
invariant-commands l = facts_left l.initial.self ≡ facts_left l.self

abbrev pub decreases-commands : goal.decreases-commands
decreases-commands l = length l.self.commands.now - l.self.number
