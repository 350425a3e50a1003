use Rattle.std.proofs.Common.{◌≡◌, ◌-◌}
use Rattle.std.specs.Prelude.{find}
use Rattle.std.specs.List.{range_with_len}
use Rattle.mach_parts.specs.SectionRecord.{numbered_section}
use Rattle.mach_parts.specs.Segment.{segment_view}
use Rattle.mach_signature.specs.Pages.{page_section_number, section_meets}
use Rattle.mach_signature.proofs.page.section_number.Given as goal

abbrev pub invariant-loop-number : goal.invariant-loop-number
invariant-loop-number l =
    find (λ k. section_meets l.page (numbered_section 0 (segment_view l.segment) k)) (range_with_len l.number (l.number-end - l.number))
    ≡ page_section_number (segment_view l.segment) l.page
