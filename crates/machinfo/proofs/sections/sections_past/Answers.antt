use Rattle.std.proofs.Common.{◌≡◌, ◌∙◌, ◌+◌, ◌-◌, ◌<◌, ◌^◌, min, map, sym, ap, arith}
use Rattle.std.proofs.lemmas.List.{drop_all}
use Rattle.std.specs.Prelude.{sum_by}
use Rattle.mach_parts.specs.Segment.{segment_view}
use Rattle.machinfo.specs.Segments.{sections_past_the_end}
use Rattle.machinfo.proofs.sections.sections_past.Goals as goal

pub returns : goal.returns
returns c =
    let past = c.loop-segment.past in
    let fits : past < 2 ^ 64 = c.loop-segment.invariant.fits in
    let all : past ≡ min (past + 0) (2 ^ 64 - 1) = omega (arith, fits) in
    let none = drop_all c.loop-segment.segment-index c.args.segments.now c.loop-segment-test.false in
    all
    ∙ sym (ap (λ left. min (past + sum_by sections_past_the_end (map segment_view left)) (2 ^ 64 - 1)) none)
    ∙ c.loop-segment.invariant.counted
