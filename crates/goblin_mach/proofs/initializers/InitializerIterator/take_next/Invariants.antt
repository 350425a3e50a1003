use Rattle.std.proofs.Common.{◌≡◌, length}
use Rattle.mach_parts.specs.NumberedLeft.{readable_left}
use Rattle.goblin_mach.specs.Initializers.{initializers_left}
use Rattle.goblin_mach.proofs.initializers.InitializerIterator.take_next.Given as goal

abbrev pub invariant-sections : goal.invariant-sections
invariant-sections l = initializers_left l.initial.self ≡ initializers_left l.self

abbrev pub decreases-sections : goal.decreases-sections
decreases-sections l = length (readable_left l.self.sections)
