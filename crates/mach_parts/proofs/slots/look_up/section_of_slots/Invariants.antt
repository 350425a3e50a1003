use Rattle.std.proofs.Common.{◌≡◌, map}
use Rattle.std.specs.Prelude.{find}
use Rattle.mach_parts.specs.NumberedLeft.{readable_left}
use Rattle.mach_parts.specs.SectionRecord.{readable_sections}
use Rattle.mach_parts.specs.Segment.{segment_view}
use Rattle.mach_parts.specs.SlotLookUp.{holds_slots_at}
use Rattle.mach_parts.proofs.slots.look_up.section_of_slots.Given as goal

abbrev pub invariant-sections : goal.invariant-sections
invariant-sections l =
    find (holds_slots_at l.address) (readable_sections (map segment_view l.segments))
    ≡ find (holds_slots_at l.address) (readable_left l.section-iterator)
