use Rattle.std.proofs.Common.{◌≡◌, ◌++◌, map}
use Rattle.mach_parts.specs.NumberedLeft.{readable_left}
use Rattle.mach_parts.specs.SectionRecord.{readable_sections}
use Rattle.mach_parts.specs.Segment.{segment_view}
use Rattle.goblin_mach.specs.AddressMaps.{claimed_before, mapped_section}
use Rattle.goblin_mach.proofs.addresses.map.mapped_sections.Given as goal

-- the sections so far, and those that are left, are all sections
abbrev pub invariant-sections : goal.invariant-sections
invariant-sections g l =
    let ss = map segment_view l.segments in record {
      counted : l.before ≡ claimed_before ss l.segment;
      so_far : l.sections.items ++ map (mapped_section ss) (readable_left l.section-iterator) ≡ map (mapped_section ss) (readable_sections ss);
    }
