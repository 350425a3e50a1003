use Rattle.std.proofs.Common.{◌≡◌}
use Rattle.std.specs.List.{list_any}
use Rattle.mach_layout.specs.Entry.{is_code_at}
use Rattle.mach_layout.specs.Laid.{laid_of, segments_of}
use Rattle.mach_layout.specs.PartsLeft.{placed_segments_left}
use Rattle.mach_layout.proofs.entry.is_in_code.Given as goal

abbrev pub invariant-loop-segment : goal.invariant-loop-segment
invariant-loop-segment l =
    list_any (is_code_at l.place) (placed_segments_left l.segment-iterator) ≡ list_any (is_code_at l.place) (segments_of (laid_of l.layout))
