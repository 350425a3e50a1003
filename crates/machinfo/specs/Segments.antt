-- The segments of an image and their sections, as they are printed.
use Rattle.std.specs.Prelude.{◌-◌, ℕ, List, ◌++◌, codes, length, map}
use Rattle.std.specs.Prelude.{Result, Ok}
use Rattle.std.specs.Fmt.{decimal}
use Rattle.mach_base.specs.Answer.{◌>>=◌}
use Rattle.mach_base.specs.Fault.{Fault}
use Rattle.mach_base.specs.Items.{items_in_bounds}
use Rattle.mach_parts.specs.Segment.{SegmentView, sections_of}
use Rattle.mach_parts.specs.SectionItems.{sections_left}
use Rattle.mach_parts.specs.declared.segment.section.Section.{Section}
use Rattle.mach_cli.specs.JsonText.{name_in_field, string_or_null}
use Rattle.mach_cli.specs.Listings.{reported_by}
use Rattle.machinfo.specs.declared.segments.SectionList.{SectionList}
use Rattle.machinfo.specs.declared.segments.SectionObjects.{SectionObjects}

-- sections without their data
abbrev pub without_data : List (Result (Section × List ℕ) Fault) → List (Result Section Fault)
without_data found = map (λ item. item >>= (λ s. Ok s.0)) found

-- how many sections a segment claims past the end of the bytes
abbrev pub sections_past_the_end : SegmentView → ℕ
sections_past_the_end s = length (sections_of s) - length (items_in_bounds (sections_of s))

-- ---- as objects

abbrev pub section_object : Section → List ℕ
section_object s =
    codes "{\"address\":"
    ++ (decimal s.addr ++ (codes ",\"name\":" ++ (string_or_null (name_in_field s.sectname) ++ (codes ",\"size\":" ++ (decimal s.size ++ codes "}")))))

-- ---- what the code's values mean

abbrev pub sections_named : SectionList → List (Result Section Fault)
sections_named it = without_data (sections_left it.sections)

abbrev pub section_objects_left : SectionObjects → List (Result (List ℕ) Fault)
section_objects_left it = map (reported_by section_object) (sections_named it.0)
