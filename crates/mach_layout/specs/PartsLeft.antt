-- What is left of the iterators over the segments and the sections of an image.
use Rattle.std.specs.Prelude.{◌≡◌, ℕ, ◌+◌, List, [], ◌∷◌, ◌++◌, Option, Some, None, map, filter_map, flat_map}
use Rattle.std.specs.Slice.Iter.{iter_rest}
use Rattle.mach_base.specs.declared.context.Ctx.{Ctx}
use Rattle.mach_load.specs.Variants.{command_of}
use Rattle.mach_layout.specs.Laid.{placed_segment_of, open_sections, sections_by}
use Rattle.mach_layout.specs.declared.placed_sections.PlacedSection.{PlacedSection}
use Rattle.mach_layout.specs.declared.placed_sections.PlacedSegment.{PlacedSegment}
use Rattle.mach_layout.specs.declared.placed_sections.SectionIterator.{SectionIterator}
use Rattle.mach_layout.specs.declared.placed_sections.SegmentIterator.{SegmentIterator}

abbrev pub placed_segments_left : SegmentIterator → List PlacedSegment
placed_segments_left it = filter_map placed_segment_of (map command_of (iter_rest it.commands))

-- the sections of the segment that is open, then those of the commands that are left
abbrev pub placed_sections_left : SectionIterator → List PlacedSection
placed_sections_left it =
    open_sections it.ctx it.bytes.now it.segment it.taken ++ flat_map (sections_by it.ctx it.bytes.now) (map command_of (iter_rest it.commands))

-- the next of the sections from number k on was taken, or none is left
abbrev pub TakesSection : Ctx → List ℕ → Option PlacedSegment → ℕ → Option PlacedSection → Type 0
TakesSection ctx bytes s k None = open_sections ctx bytes s k ≡ []
TakesSection ctx bytes s k (Some found) = open_sections ctx bytes s k ≡ found ∷ open_sections ctx bytes s (k + 1)
