use Rattle.std.proofs.Common.{◌∙◌, Some, ap, sym}
use Rattle.mach_base.proofs.ItemLists.{read_as-Reads}
use Rattle.mach_parts.proofs.NumberedSections.{found_here, found_later, found_none}
use Rattle.mach_parts.proofs.segment.numbered.counted_section.Goals as goal

pub returns-then-before-count : goal.returns-then-before-count
returns-then-before-count c =
    ap (λ item. Some item) (read_as-Reads _ c.numbered.result _ c.numbered.ensures)
    ∙ (sym (found_here c.args.segments.now c.segments.k _ c.segments-test.true c.segments.before c.if-before-count.true) ∙ c.segments.invariant)

pub segments-preserved : goal.segments-preserved
segments-preserved c =
    sym (found_later c.args.segments.now c.segments.k _ c.segments-test.true c.segments.before c.if-before-count.false) ∙ c.segments.invariant

pub returns : goal.returns
returns c = sym (found_none c.args.segments.now c.segments.k c.segments.before c.segments-test.false) ∙ c.segments.invariant
