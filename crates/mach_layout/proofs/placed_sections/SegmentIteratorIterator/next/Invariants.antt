use Rattle.std.proofs.Common.{◌≡◌, length}
use Rattle.std.specs.Slice.Iter.{iter_rest}
use Rattle.mach_layout.specs.PartsLeft.{placed_segments_left}
use Rattle.mach_layout.proofs.placed_sections.SegmentIteratorIterator.next.Given as goal

abbrev pub invariant-commands : goal.invariant-commands
invariant-commands l = placed_segments_left l.initial.self ≡ placed_segments_left l.self

abbrev pub decreases-commands : goal.decreases-commands
decreases-commands l = length (iter_rest l.self.commands)
