use Rattle.std.proofs.Common.{◌≡◌, ◌-◌, length}
use Rattle.mach_load.specs.TablesLeft.{build_tools_left}
use Rattle.mach_load.proofs.build_tools.BuildToolIterator.seek.Given as goal

abbrev pub invariant-commands : goal.invariant-commands
invariant-commands l = build_tools_left l.self ≡ build_tools_left l.fn.self

abbrev pub decreases-commands : goal.decreases-commands
decreases-commands l = length l.self.commands.now - l.self.next
