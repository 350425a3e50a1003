-- Whether the segments of an image and their sections are written in full.
use Rattle.std.specs.Prelude.{◌≡◌, ◌==◌, ◌-◌, ◌&&◌, ◌||◌, ℕ, List, [], ◌∷◌, map, take, length, nat_lt, Bool, true, false, Result}
use Rattle.std.specs.List.{list_all}
use Rattle.std.specs.Result.{is_ok}
use Rattle.mach_base.specs.Fault.{Fault}
use Rattle.mach_base.specs.Items.{items_in_bounds}
use Rattle.mach_parts.specs.Segment.{SegmentView, sections_of}
use Rattle.mach_cli.specs.Listings.{reported_by}
use Rattle.mach_cli.specs.declared.listing.ListProgress.{ListProgress}
use Rattle.machinfo.specs.Segments.{section_object, sections_past_the_end, without_data}

-- whether the first rows of a list can be read, as many as a limit allows; and whether it has more
abbrev pub can_be_read : (limit : ℕ) → List (Result (List ℕ) Fault) → Bool
can_be_read limit rows = list_all is_ok (take limit rows)

abbrev pub has_more : (limit : ℕ) → List (Result (List ℕ) Fault) → Bool
has_more limit rows = nat_lt limit (length rows)

-- the sections of a segment that begin within the bytes, as objects; one that can't be read is a fault
abbrev pub sections_as_objects : SegmentView → List (Result (List ℕ) Fault)
sections_as_objects s = map (reported_by section_object) (without_data (items_in_bounds (sections_of s)))

-- whether the sections that are written of a segment can be read, and none is claimed past the end of the bytes
abbrev pub is_segment_whole : (left : ℕ) → SegmentView → Bool
is_segment_whole left s = can_be_read left (sections_as_objects s) && (sections_past_the_end s == 0)

-- The state after the sections of a segment, of which no more than a limit are written.
pub record IsAfterSections (left : ℕ) (s : SegmentView) (t : ListProgress) : Type 0 where
  pub whole : t.whole ≡ is_segment_whole left s
  pub more : t.more ≡ has_more left (sections_as_objects s)
  pub rest : t.left ≡ left - length (sections_as_objects s)

-- whether all of some segments are whole, with as many sections as are left of a limit in all; and whether they have more sections
abbrev pub are_segments_whole : (left : ℕ) → List SegmentView → Bool
are_segments_whole left [] = true
are_segments_whole left (s ∷ rest) = is_segment_whole left s && are_segments_whole (left - length (sections_as_objects s)) rest

abbrev pub have_more_sections : (left : ℕ) → List SegmentView → Bool
have_more_sections left [] = false
have_more_sections left (s ∷ rest) = has_more left (sections_as_objects s) || have_more_sections (left - length (sections_as_objects s)) rest

-- The state after some segments, of which no more than a limit are written, and with them no more sections in all: they are whole if
-- those written are, and there are more if there are more segments or more sections.
pub record IsAfterSegments (limit : ℕ) (segments : List SegmentView) (t : ListProgress) : Type 0 where
  pub whole : t.whole ≡ are_segments_whole limit (take limit segments)
  pub more : t.more ≡ (nat_lt limit (length segments) || have_more_sections limit (take limit segments))
