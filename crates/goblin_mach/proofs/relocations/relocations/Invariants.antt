use Rattle.std.proofs.Common.{map, ◌≡◌, drop}
use Rattle.mach_parts.specs.Segment.{segment_view}
use Rattle.goblin_mach.specs.Relocations.{relocated_view, with_front, relocated_sections_in}
use Rattle.goblin_mach.proofs.relocations.relocations.Given as goal

abbrev pub invariant-loop-segment : goal.invariant-loop-segment
invariant-loop-segment g l =
    relocated_sections_in l.ctx l.bytes (map segment_view l.segments)
    ≡ with_front (map relocated_view l.found.items) (relocated_sections_in l.ctx l.bytes (map segment_view (drop l.segment-index l.segments)))
