use Rattle.std.proofs.Common.{◌≡◌, ◌-◌, map}
use Rattle.std.specs.Prelude.{find, slice_get}
use Rattle.std.specs.List.{range_with_len}
use Rattle.mach_parts.specs.Segment.{segment_view}
use Rattle.mach_signature.specs.Pages.{segment_meets, segment_number}
use Rattle.mach_signature.proofs.page.segment_number.Given as goal

abbrev pub invariant-loop-number : goal.invariant-loop-number
invariant-loop-number l =
    find (λ k. segment_meets l.page (slice_get (map segment_view l.segments) k)) (range_with_len l.number (l.number-end - l.number))
    ≡ segment_number (map segment_view l.segments) l.page
