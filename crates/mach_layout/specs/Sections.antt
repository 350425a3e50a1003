-- Rules of sections (`mach-o/loader.h`, struct section and section_64).
use Rattle.std.specs.Prelude.{◌==◌, ◌%◌, ◌^◌, ◌-◌, ◌&&◌, ◌||◌, not, nat_le, nat_lt, Bool, List, [], ◌∷◌}
use Rattle.std.specs.Prelude.{if◌then◌else◌}
use Rattle.std.specs.List.{before_first}
use Rattle.std.specs.Str.{bytes_eq}
use Rattle.mach_base.specs.Number.{place_after}
use Rattle.mach_base.specs.Text.{is_zero}
use Rattle.mach_layout.specs.Claims.{has_bytes}
use Rattle.mach_layout.specs.Laid.{Laid, file_size, ends_past, has_addresses, is_final, is_object, placed_sections_of}
use Rattle.mach_layout.specs.Rules.{measured, sound, against, owner_at, reported_over}
use Rattle.mach_layout.specs.Segments.{range_holds, segment_name, segment_owner}
use Rattle.mach_layout.specs.declared.fault.LayoutFault.{LayoutFault}
use Rattle.mach_layout.specs.declared.fault.Owner.{Owner}
use Rattle.mach_layout.specs.declared.fault.Part.TheVariants as part
use Rattle.mach_layout.specs.declared.fault.Rule.{Rule}
use Rattle.mach_layout.specs.declared.fault.Rule.TheVariants as rule
use Rattle.mach_layout.specs.declared.placed_sections.PlacedSection.{PlacedSection}
use Rattle.mach_layout.specs.declared.rules.RuleOutcome.{RuleOutcome}

-- the section as the owner of a fault
abbrev pub section_owner : PlacedSection → Owner
section_owner s = owner_at part.Section s.segment.place s.number

-- its addresses lie in those of its segment
abbrev pub in_memory_of_segment : PlacedSection → Bool
in_memory_of_segment s = let c = s.segment.command in range_holds c.vmaddr c.vmsize s.section.addr s.section.size

-- its bytes lie in those of its segment
abbrev pub in_bytes_of_segment : PlacedSection → Bool
in_bytes_of_segment s = let c = s.segment.command in range_holds c.fileoff c.filesize s.section.offset s.section.size

-- it has bytes, and they are in the file
abbrev pub has_bytes_there : Laid → PlacedSection → Bool
has_bytes_there laid s = has_bytes laid s && not (ends_past (file_size laid) s.section.offset s.section.size)

-- what each rule of one section sees
abbrev pub section_sees : Laid → Rule → PlacedSection → RuleOutcome
-- The addresses of a section lie in those of its segment, also if it is zero-filled.
section_sees laid rule.SectionOutOfMemory s =
    against (segment_owner s.segment) (measured (not (has_addresses s) || in_memory_of_segment s)
    (place_after s.section.addr s.section.size) (place_after s.segment.command.vmaddr s.segment.command.vmsize))
-- The bytes of a section lie in those of its segment. (That they end past the end of the file is a fault of its own.)
section_sees laid rule.SectionOutOfBytes s =
    against (segment_owner s.segment) (measured (not (has_bytes_there laid s) || in_bytes_of_segment s)
    (place_after s.section.offset s.section.size) (place_after s.segment.command.fileoff s.segment.command.filesize))
-- In a mapped file, the distance of a section's bytes from those of its segment is that of its address from its segment's.
section_sees laid rule.SectionElsewhere s =
    let bytes_after = s.section.offset - s.segment.command.fileoff in
    let memory_after = s.section.addr - s.segment.command.vmaddr in
    let judged = is_final laid && has_bytes_there laid s && in_memory_of_segment s && in_bytes_of_segment s in
    against (segment_owner s.segment) (measured (not judged || bytes_after == memory_after) bytes_after memory_after)
-- The alignment of a section is at most 2 to the power of 15.
section_sees laid rule.SectionAlignment s = measured (nat_le s.section.align 15) s.section.align 15
-- The address of a section that has a size, and lies in its segment, is a multiple of its alignment.
section_sees laid rule.SectionUnaligned s =
    if s.section.size == 0 || not (in_memory_of_segment s) || nat_lt 15 s.section.align then sound
    else measured (s.section.addr % 2 ^ s.section.align == 0) s.section.addr (2 ^ s.section.align)
-- A section states the name of its own segment. (The one segment of an object file has no name.)
section_sees laid rule.SectionOfOther s =
    against (segment_owner s.segment) (measured (is_object laid || bytes_eq (before_first is_zero s.section.segname) (segment_name s.segment)) 0 0)
section_sees laid _ s = sound

-- the faults of the sections
abbrev pub section_faults : Laid → List LayoutFault
section_faults laid =
    reported_over (rule.SectionOutOfMemory ∷ rule.SectionOutOfBytes ∷ rule.SectionElsewhere ∷ rule.SectionAlignment ∷ rule.SectionUnaligned
    ∷ rule.SectionOfOther ∷ []) (λ rule. section_owner) (section_sees laid) (placed_sections_of laid)
