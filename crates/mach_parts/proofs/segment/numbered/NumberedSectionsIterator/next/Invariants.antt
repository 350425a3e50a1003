use Rattle.std.proofs.Common.{◌≡◌, ◌-◌, length}
use Rattle.mach_parts.specs.NumberedLeft.{numbered_left}
use Rattle.mach_parts.proofs.segment.numbered.NumberedSectionsIterator.next.Given as goal

abbrev pub invariant-segments : goal.invariant-segments
invariant-segments l = numbered_left l.initial.self ≡ numbered_left l.self

abbrev pub decreases-segments : goal.decreases-segments
decreases-segments l = length l.self.segments.now - l.self.segment
