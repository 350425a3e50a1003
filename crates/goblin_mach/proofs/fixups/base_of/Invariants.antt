use Rattle.std.proofs.Common.{◌≡◌, map, drop}
use Rattle.mach_parts.specs.Segment.{segment_view}
use Rattle.goblin_mach.specs.Fixups as defined
use Rattle.goblin_mach.proofs.fixups.base_of.Given as goal

abbrev pub invariant-loop-segment : goal.invariant-loop-segment
invariant-loop-segment l =
    defined.base_of (map segment_view (drop l.segment-index l.segments)) ≡ defined.base_of (map segment_view l.segments)
