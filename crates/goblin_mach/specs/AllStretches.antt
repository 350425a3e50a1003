-- The segments and the sections that hold addresses (`mach-o/loader.h`).
use Rattle.std.specs.Prelude.{ℕ, ◌-◌, List, [], ◌∷◌, map, Option, nat_le}
use Rattle.std.specs.Prelude.{if◌then◌else◌}
use Rattle.std.specs.Result.{result_unwrap_or}
use Rattle.mach_base.specs.Items.{all_read}
use Rattle.mach_parts.specs.Segment.{SegmentView, sections_of}
use Rattle.mach_parts.specs.declared.segment.section.Section.{Section}
use Rattle.goblin_mach.specs.Stretches.{at_number, first_holder}
use Rattle.goblin_mach.specs.declared.addresses.segments.SegmentStretches as declared
use Rattle.goblin_mach.specs.declared.addresses.segments.AllStretches as over
use Rattle.goblin_mach.specs.declared.addresses.stretches.Stretch.{Stretch}

-- a segment with its sections: their ranges of memory, and their names
pub record SegmentStretches : Type 0 where
  pub memory : Stretch
  pub sections : List Stretch

abbrev pub memory_of_segment : SegmentView → Stretch
memory_of_segment s = record { name = s.command.segname; start = s.command.vmaddr; size = s.command.vmsize }

abbrev pub memory_of_section : Section × List ℕ → Stretch
memory_of_section s = record { name = s.0.sectname; start = s.0.addr; size = s.0.size }

-- The sections of a segment, if it claims no more than `room`; none if one of them can't be read.
abbrev pub sections_within : (room : ℕ) → SegmentView → List Stretch
sections_within room s = if nat_le s.command.nsects room then map memory_of_section (result_unwrap_or (all_read (sections_of s)) []) else []

-- the room that the sections of a segment leave; all of it if they are too many
abbrev pub room_after : (room : ℕ) → SegmentView → ℕ
room_after room s = if nat_le s.command.nsects room then room - s.command.nsects else room

-- Segments with their sections, in order. All of them claim no more than `room` sections, and a segment that claims more than is
-- left has none. So sections whose records overlap take no more memory than that.
abbrev pub parts_of : (room : ℕ) → List SegmentView → List SegmentStretches
parts_of room [] = []
parts_of room (s ∷ ss) = record { memory = memory_of_segment s; sections = sections_within room s } ∷ parts_of (room_after room s) ss

-- the first segment that holds an address
abbrev pub part_with : ℕ → List SegmentStretches → Option SegmentStretches
part_with address parts = at_number parts (first_holder address 0 (map (λ p. p.memory) parts))

-- the first section that holds an address
abbrev pub section_with : ℕ → List Stretch → Option Stretch
section_with address sections = at_number sections (first_holder address 0 sections)

-- ---- what the code's values mean

-- what contracts see of a segment with its sections
abbrev pub part_view : {A : Type 0} → declared.SegmentStretches A → SegmentStretches
part_view p = record { memory = p.memory; sections = p.sections.items.items }

-- what contracts see of the segments of an image with their sections
abbrev pub parts_view : {A : Type 0} → over.AllStretches A → List SegmentStretches
parts_view parts = map part_view parts.items.items
