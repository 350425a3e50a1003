use Rattle.mach_layout.proofs.Furthest.{furthest_here, reported_next}
use Rattle.std.proofs.Common.{◌∙◌}
use Rattle.mach_layout.proofs.sweep.report_shared.Goals as goal

pub loop-range-preserved : goal.loop-range-preserved
loop-range-preserved g c =
    let sorted = c.args.sorted.now in
    let k = c.loop-range.range-index in
    record {
      furthest_is = furthest_here sorted k _ c.loop-range.furthest c.further.result c.loop-range-test.true c.loop-range.invariant.furthest_is c.further.ensures;
      reported =
          rw (c.in_ok-add.ensures.reported, c.shared.ensures, c.loop-range.invariant.furthest_is)
          (reported_next c.args.rule c.loop-range.faults.items sorted k _ c.loop-range-test.true ∙ c.loop-range.invariant.reported);
    }
