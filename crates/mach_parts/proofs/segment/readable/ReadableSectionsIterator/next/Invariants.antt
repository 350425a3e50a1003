use Rattle.std.proofs.Common.{◌≡◌, ◌-◌, length}
use Rattle.mach_parts.specs.NumberedLeft.{readable_left}
use Rattle.mach_parts.proofs.segment.readable.ReadableSectionsIterator.next.Given as goal

abbrev pub invariant-segments : goal.invariant-segments
invariant-segments l = readable_left l.initial.self ≡ readable_left l.self

abbrev pub decreases-segments : goal.decreases-segments
decreases-segments l = length l.self.segments.now - l.self.segment
