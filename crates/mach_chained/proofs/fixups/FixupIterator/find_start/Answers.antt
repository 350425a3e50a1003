use Rattle.std.proofs.Common.{◌≡◌, Some, Ok, Err, Result, Option, sym, ap, refl, ◌∙◌}
use Rattle.mach_base.specs.Fault.{Fault, fault_of}
use Rattle.mach_chained.specs.declared.source.NextPlace.TheVariants as variant
use Rattle.mach_chained.specs.Fixups.{Spot}
use Rattle.mach_chained.specs.WalkViews.{fixup_input_of, span_view, spot_view}
use Rattle.mach_chained.specs.FixupsLeft.{fixups_left, next_spot}
use Rattle.mach_chained.proofs.Walk.{on_items, ends_at}
use Rattle.mach_chained.proofs.fixups.FixupIterator.find_start.Goals as goal

pub returns-in-Ok-clause-items : goal.returns-in-Ok-clause-items
unfolding fixups_left
returns-in-Ok-clause-items c =
    let it = c.args.self.now in
    let x = fixup_input_of it.source in
    let span = span_view it.span in
    let spot : Result (Option Spot) Fault = Ok (Some (spot_view c.in-Ok.place)) in
    let there : next_spot x span it.next ≡ spot = ap (next_spot x span) c.requires.there ∙ c.in-Ok.ensures in
    on_items x span it.next spot it.page it.next_page it.segment it.ended c.requires.on there
    ∙ sym (on_items x span (variant.Fixup c.in-Ok.place) spot it.page it.next_page it.segment it.ended c.requires.on refl)

pub returns-in-Err-clause-err : goal.returns-in-Err-clause-err
unfolding fixups_left
returns-in-Err-clause-err c =
    let it = c.args.self.now in
    let x = fixup_input_of it.source in
    let span = span_view it.span in
    let there : next_spot x span it.next ≡ Err (fault_of c.in-Err.e) = ap (next_spot x span) c.requires.there ∙ c.in-Err.ensures in
    on_items x span it.next (Err (fault_of c.in-Err.e)) it.page it.next_page it.segment it.ended c.requires.on there
    ∙ ends_at x span (fault_of c.in-Err.e) it.page it.next_page it.segment
