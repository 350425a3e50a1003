use Rattle.std.proofs.Common.{◌≡◌, map}
use Rattle.std.specs.Prelude.{find}
use Rattle.mach_parts.specs.NumberedLeft.{readable_left}
use Rattle.mach_parts.specs.SectionRecord.{readable_sections}
use Rattle.mach_parts.specs.Segment.{segment_view}
use Rattle.mach_signature.specs.SignedImages.{is_info_plist}
use Rattle.mach_signature.proofs.plist.among_sections.Given as goal

abbrev pub invariant-sections : goal.invariant-sections
invariant-sections l = find is_info_plist (readable_sections (map segment_view l.segments)) ≡ find is_info_plist (readable_left l.section-iterator)
