use Rattle.std.proofs.Common.{◌∙◌, ap, not, ◌==◌}
use Rattle.mach_chained.specs.Fixups.{Span}
use Rattle.mach_chained.specs.FixupCursors.{span_in}
use Rattle.mach_chained.specs.FixupsLeft.{fixups_left, fixups_unless_ended}
use Rattle.mach_chained.specs.WalkViews.{fixup_input_in}
use Rattle.mach_chained.specs.declared.source.NextPlace.{NextPlace}
use Rattle.mach_chained.proofs.header.ChainedFixups.fixups_from.Goals as goal

pub returns-clause-items : goal.returns-clause-items
unfolding fixups_left
returns-clause-items c =
    let x = fixup_input_in c.args.self.now c.args.segments.now c.args.base in
    let k = c.args.cursor.now in
    ap (λ (s : Span). fixups_unless_ended (not (k.ended == 0)) x s c.next_place.result k.page k.next_page k.segment) c.span_of-opened.ensures.span
    ∙ ap (λ (p : NextPlace). fixups_unless_ended (not (k.ended == 0)) x (span_in x k) p k.page k.next_page k.segment) c.next_place.ensures
