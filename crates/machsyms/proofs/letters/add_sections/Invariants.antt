use Rattle.std.proofs.Common.{◌≡◌, ◌++◌, ◌≤◌, length, map}
use Rattle.mach_parts.specs.SectionItems.{sections_left}
use Rattle.mach_parts.specs.Segment.{segment_view, sections_of}
use Rattle.machsyms.specs.Letters.{item_section}
use Rattle.machsyms.proofs.letters.add_sections.Given as goal

abbrev pub invariant-sections : goal.invariant-sections
invariant-sections g l =
    (length l.sections.items ≤ 255)
    × (l.fn.sections.items ++ map item_section (sections_of (segment_view l.segment)) ≡ l.sections.items ++ map item_section (sections_left l.item-iterator))
