use Rattle.std.proofs.Common.{◌≡◌, ◌-◌, length}
use Rattle.machinfo.specs.SectionRows.{sections_counted_left}
use Rattle.machinfo.proofs.sections.CountedSections.take_next.Given as goal

abbrev pub invariant-segments : goal.invariant-segments
invariant-segments l = sections_counted_left l.initial.self ≡ sections_counted_left l.self

abbrev pub decreases-segments : goal.decreases-segments
decreases-segments l = length l.self.segments.now - l.self.segment
