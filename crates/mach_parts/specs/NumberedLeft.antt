-- What is left of the sections of an image's segments.
use Rattle.std.specs.Prelude.{ℕ, ◌+◌, List, [], ◌∷◌, ◌++◌, drop, map, Result}
use Rattle.mach_base.specs.declared.error.Error.{Error}
use Rattle.mach_base.specs.Fault.{Fault}
use Rattle.mach_base.specs.Items.{read_as}
use Rattle.mach_parts.specs.Segment.{SegmentView, segment_view}
use Rattle.mach_parts.specs.SectionRecord.{held_from, in_front, numbered_from, numbered_in, readable_in}
use Rattle.mach_parts.specs.declared.segment.numbered.NumberedSection.{NumberedSection}
use Rattle.mach_parts.specs.declared.segment.numbered.NumberedSections.{NumberedSections}
use Rattle.mach_parts.specs.declared.segment.readable.ReadableSections.{ReadableSections}

-- an item, as it was returned
abbrev pub numbered_read : Result NumberedSection Error → Result NumberedSection Fault
numbered_read item = read_as (λ n. n) item

-- for some segments, the first of which has number n: the sections of the first from number k on, and those of the others
abbrev pub numbered_after : ℕ → ℕ → List SegmentView → List (Result NumberedSection Fault)
numbered_after n k [] = []
numbered_after n k (s ∷ ss) = numbered_from n s k ++ numbered_in (n + 1) ss

abbrev pub readable_after : ℕ → ℕ → List SegmentView → List NumberedSection
readable_after n k [] = []
readable_after n k (s ∷ ss) = in_front (held_from n s k) ++ readable_in (n + 1) ss

-- the remaining sections of an iterator
abbrev pub numbered_left : NumberedSections → List (Result NumberedSection Fault)
numbered_left it = numbered_after it.segment it.number (map segment_view (drop it.segment it.segments.now))

abbrev pub readable_left : ReadableSections → List NumberedSection
readable_left it = readable_after it.segment it.number (map segment_view (drop it.segment it.segments.now))
