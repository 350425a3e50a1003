use Rattle.std.proofs.Common.{◌≡◌, ◌++◌, map, drop}
use Rattle.mach_parts.specs.Segment.{segment_view}
use Rattle.goblin_mach.specs.AllStretches.{part_view, parts_of}
use Rattle.goblin_mach.proofs.addresses.segments.AllStretches.of_segments.Given as goal

-- the parts so far, and those of the segments that are left, are all parts
abbrev pub invariant-segments : goal.invariant-segments
invariant-segments g l =
    (map (λ p. p.memory) l.items.items ≡ l.memory.items)
    × (map part_view l.items.items ++ parts_of l.left (map segment_view (drop l.segment-index l.segments)) ≡ parts_of l.room (map segment_view l.segments))
