use Rattle.std.proofs.Common.{◌≡◌, length}
use Rattle.mach_parts.specs.NumberedLeft.{numbered_left}
use Rattle.mach_parts.specs.SlotsLeft.{slots_left}
use Rattle.mach_parts.proofs.slots.SlotIterator.seek.Given as goal

abbrev pub invariant-sections : goal.invariant-sections
invariant-sections l = slots_left l.initial.self ≡ slots_left l.self

abbrev pub decreases-sections : goal.decreases-sections
decreases-sections l = length (numbered_left l.self.sections)
