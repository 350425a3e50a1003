use Rattle.std.proofs.Common.{◌≡◌, ◌-◌, length}
use Rattle.mach_load.specs.TablesLeft.{options_left}
use Rattle.mach_load.proofs.linker_options.LinkerOptionIterator.seek.Given as goal

abbrev pub invariant-commands : goal.invariant-commands
invariant-commands l = options_left l.self ≡ options_left l.fn.self

abbrev pub decreases-commands : goal.decreases-commands
decreases-commands l = length l.self.commands.now - l.self.next
