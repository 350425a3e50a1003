use Rattle.std.proofs.Common.{◌∙◌, length-set, arith}
use Rattle.goblin_mach_c.proofs.Filled.{one_more}
use Rattle.goblin_mach_c.proofs.rows.fill.Goals as goal

pub loop-k-preserved : goal.loop-k-preserved
loop-k-preserved g c =
    let inside = c.loop-k-test.true in
    let end = c.loop-k.auto.k-end in
    let long = c.loop-k.invariant.1 in (
      one_more _ _ _ _ _ c.in-Some.row _ c.loop-k.invariant.0 c.in-Some.ensures (omega (arith, inside, end, long)),
      length-set c.loop-k.out c.loop-k.k c.in-Some.row ∙ long,
    )
