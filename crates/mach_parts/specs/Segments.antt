-- The segments of an image.
use Rattle.std.specs.Prelude.{ℕ, List, map, Result}
use Rattle.std.specs.Slice.Iter.{iter_rest}
use Rattle.mach_base.specs.Fault.{Fault}
use Rattle.mach_parts.specs.Segment.{segment_view, sections_of}
use Rattle.mach_parts.specs.declared.segment.list.Segments.{Segments}
use Rattle.mach_parts.specs.declared.segment.list.SegmentSections.{SegmentSections}
use Rattle.mach_parts.specs.declared.segment.section.Section.{Section}

-- the segments, in order
abbrev pub segments_in : {S A : Type 0} → Segments S A → List S
segments_in s = s.segments.items

-- the sections of each remaining segment
abbrev pub sections_in : SegmentSections → List (List (Result (Section × List ℕ) Fault))
sections_in it = map (λ s. sections_of (segment_view s)) (iter_rest it.segments)
