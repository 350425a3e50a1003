use Rattle.std.proofs.Common.{◌∙◌, sym}
use Rattle.goblin_mach.proofs.Bases.{base_here, base_further, base_at_end}
use Rattle.goblin_mach.proofs.fixups.base_of.Goals as goal

pub returns-then-is_text : goal.returns-then-is_text
returns-then-is_text c =
    sym (base_here c.args.segments.now c.loop-segment.segment-index _ c.loop-segment-test.true (sym c.is_text.ensures ∙ c.if-is_text.true))
    ∙ c.loop-segment.invariant

pub loop-segment-preserved : goal.loop-segment-preserved
loop-segment-preserved c =
    sym (base_further c.args.segments.now c.loop-segment.segment-index _ c.loop-segment-test.true (sym c.is_text.ensures ∙ c.if-is_text.false))
    ∙ c.loop-segment.invariant

pub returns : goal.returns
returns c = sym (base_at_end c.args.segments.now c.loop-segment.segment-index c.loop-segment-test.false) ∙ c.loop-segment.invariant
