use Rattle.std.proofs.Common.{◌∙◌, sym, ap, Bool}
use Rattle.mach_chained.specs.Fixups.{FixupInput, Span}
use Rattle.mach_chained.specs.FixupCursors.{fixups_after, next_place_said}
use Rattle.mach_base.specs.Number.{says_yes}
use Rattle.mach_chained.specs.FixupsLeft.{fixups_left, fixups_unless_ended}
use Rattle.mach_chained.specs.WalkViews.{fixup_input_of, span_view}
use Rattle.mach_chained.specs.declared.cursor.FixupCursor.{FixupCursor}
use Rattle.mach_chained.specs.declared.source.NextPlace.{NextPlace}
use Rattle.mach_chained.proofs.Opened.{known_span}
use Rattle.mach_chained.proofs.fixups.FixupIterator.cursor.Goals as goal

pub returns : goal.returns
unfolding fixups_left
returns c = λ x over.
    let it = c.args.self.now in
    let y = fixup_input_of it.source in
    let n = c.numbers_of-next.result in
    let k : FixupCursor = record {
      segment = it.segment;
      number = it.span.number;
      at = n.1;
      index = n.3;
      next_page = it.next_page;
      page = it.page;
      next = n.0;
      has_more = n.2;
      opened = c.flag.result;
      ended = c.flag-2.result;
    } in
    let span = known_span y it.opened (span_view it.span) c.flag.result c.flag.ensures over.known in
    ap (λ (i : FixupInput). fixups_after i k) (sym over.source)
    ∙ ap (λ (s : Span). fixups_unless_ended (says_yes k.ended) y s (next_place_said n.0 n.1 n.2 n.3) it.page it.next_page it.segment) span
    ∙ ap (λ (b : Bool). fixups_unless_ended b y (span_view it.span) (next_place_said n.0 n.1 n.2 n.3) it.page it.next_page it.segment) c.flag-2.ensures
    ∙ ap (λ (p : NextPlace). fixups_unless_ended it.ended y (span_view it.span) p it.page it.next_page it.segment) c.numbers_of-next.ensures
