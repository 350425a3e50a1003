use Rattle.std.proofs.Common.{◌≡◌, ◌≤◌, length, map, drop}
use Rattle.mach_parts.specs.Segment.{segment_view}
use Rattle.machsyms.specs.Letters.{named_sections}
use Rattle.machsyms.proofs.Taken.{sections_with}
use Rattle.machsyms.proofs.letters.sections_held.Given as goal

abbrev pub invariant-segments : goal.invariant-segments
invariant-segments g l =
    (length l.sections.items ≤ 255) × (sections_with l.sections.items (drop l.segment-index l.segments) ≡ named_sections (map segment_view l.segments))
