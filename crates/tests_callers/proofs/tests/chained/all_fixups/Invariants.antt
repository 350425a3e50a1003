use Rattle.std.proofs.Common.{◌≡◌, ◌+◌, length}
use Rattle.mach_chained.specs.FixupsLeft.{fixups_left}
use Rattle.tests_callers.proofs.tests.chained.all_fixups.Given as goal

abbrev pub invariant-fixups : goal.invariant-fixups
invariant-fixups l = l.steps ≡ l.initial.steps + length l.found.items

abbrev pub decreases-fixups : goal.decreases-fixups
decreases-fixups l = length (fixups_left l.left)
