use Rattle.std.proofs.Common.{◌≡◌, drop, map, slice_get}
use Rattle.mach_parts.specs.SectionRecord.{numbered_in, numbered_sections}
use Rattle.mach_parts.specs.Segment.{segment_view}
use Rattle.mach_parts.proofs.segment.numbered.counted_section.Given as goal

abbrev pub invariant-segments : goal.invariant-segments
invariant-segments l =
    slice_get (numbered_in l.k (map segment_view (drop l.k l.segments))) l.before ≡ slice_get (numbered_sections (map segment_view l.segments)) l.number
