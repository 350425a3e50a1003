use Rattle.std.proofs.Common.{◌≡◌, map}
use Rattle.mach_base.specs.Items.{all_read}
use Rattle.mach_parts.specs.Segment.{segment_view, sections_of}
use Rattle.mach_parts.specs.SectionItems.{section_and_bytes, sections_left}
use Rattle.mach_base.proofs.AllRead.{onto}
use Rattle.mach_parts.proofs.segment.Segment.sections.Given as goal

abbrev pub invariant-sections : goal.invariant-sections
invariant-sections g l =
    all_read (sections_of (segment_view l.self)) ≡ onto (map section_and_bytes l.sections.items) (all_read (sections_left l.section-iterator))
