use Rattle.std.proofs.Common.{◌∙◌, sym, arith}
use Rattle.goblin_mach_c.proofs.Filled.{drop_past, drop_next}
use Rattle.goblin_mach_c.proofs.rows.skip.Goals as goal

pub returns-in_default : goal.returns-in_default
returns-in_default g c =
    let inside = c.loop-test.true in
    let end = c.loop.auto.counter-end in
    c.in_default.ensures.1 ∙ sym (drop_past _ c.loop.counter c.args.count (sym c.loop.invariant ∙ c.in_default.ensures.0) (omega (arith, inside, end)))

pub loop-preserved : goal.loop-preserved
loop-preserved g c = sym (drop_next _ c.loop.counter c.in-Some.field-0 _ (sym c.loop.invariant ∙ c.in-Some.ensures))
