use Rattle.std.proofs.Common.{None, Ok, ap, ◌∙◌}
use Rattle.mach_chained.specs.WalkViews.{fixup_input_of, span_view}
use Rattle.mach_chained.specs.FixupsLeft.{fixups_left, next_spot}
use Rattle.mach_chained.proofs.Walk.{on_items, left_nothing}
use Rattle.mach_chained.proofs.fixups.FixupIterator.go_on.Goals as goal

pub returns-then-self-clause-end : goal.returns-then-self-clause-end
unfolding fixups_left
returns-then-self-clause-end c = λ _.
    let it = c.find_page.new.self in
    let x = fixup_input_of it.source in
    let span = span_view it.span in
    let e = c.in-Ok-false.ensures.end c.in-Ok-false.field-0-test in
    on_items x span it.next (Ok None) it.page it.next_page it.segment it.ended c.in-Ok-false.ensures.on (ap (next_spot x span) e.0)
    ∙ left_nothing x span it.page it.next_page it.segment e.1 c.if-self.true
