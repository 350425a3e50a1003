use Rattle.std.proofs.Common.{◌≡◌, ◌+◌, ◌-◌, ◌<◌, ◌^◌, min, map, drop}
use Rattle.std.specs.Prelude.{sum_by}
use Rattle.mach_parts.specs.Segment.{segment_view}
use Rattle.machinfo.specs.Segments.{sections_past_the_end}
use Rattle.machinfo.proofs.sections.sections_past.Given as goal

abbrev pub invariant-loop-segment : goal.invariant-loop-segment
invariant-loop-segment l = record {
  fits : l.past < 2 ^ 64;
  counted : min (l.past + sum_by sections_past_the_end (map segment_view (drop l.segment-index l.segments))) (2 ^ 64 - 1)
      ≡ min (sum_by sections_past_the_end (map segment_view l.segments)) (2 ^ 64 - 1);
}
