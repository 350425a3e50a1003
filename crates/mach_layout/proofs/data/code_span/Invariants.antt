use Rattle.std.proofs.Common.{◌≡◌}
use Rattle.mach_layout.specs.DataInCode.{code_span, span_after}
use Rattle.mach_layout.specs.Laid.{laid_of}
use Rattle.mach_layout.specs.PartsLeft.{placed_segments_left}
use Rattle.mach_layout.proofs.data.code_span.Given as goal

abbrev pub invariant-loop-segment : goal.invariant-loop-segment
invariant-loop-segment l = span_after l.found (placed_segments_left l.segment-iterator) ≡ code_span (laid_of l.layout)
