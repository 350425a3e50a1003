use Rattle.std.proofs.Common.{◌∙◌, arith}
use Rattle.goblin_mach.proofs.NearestItems.{counted_more}
use Rattle.goblin_mach.proofs.macho.nearest.claimed_before.Goals as goal

pub segments-preserved : goal.segments-preserved
segments-preserved c = record {
  few = omega (arith, c.segments-test.true);
  counted =
      c.saturating_add-claimed.ensures
      ∙ counted_more c.args.segments.now c.segments.number c.segments.claimed _ c.if-number-segments.true c.segments.invariant.counted;
}
