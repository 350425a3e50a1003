use Rattle.std.proofs.Common.{map, ◌∙◌}
use Rattle.std.proofs.lemmas.Result.{err_from_is_err_and}
use Rattle.goblin_mach.specs.Relocations.{relocated_view}
use Rattle.goblin_mach.proofs.RelocationLists.{listed-more, listed-refused, FailsAs-whole}
use Rattle.goblin_mach.proofs.relocations.relocations.Goals as goal

pub returns-in_err-add_relocations : goal.returns-in_err-add_relocations
returns-in_err-add_relocations g c =
    let p = err_from_is_err_and c.from_residual.result c.from_residual.ensures.1 in
    let front = map relocated_view c.loop-segment.found.items in
    rw (p.1, p.2) (FailsAs-whole c.in_err-add_relocations.field-0.0 _ _
    (λ f fault. c.loop-segment.invariant ∙ listed-refused c.args.ctx c.args.bytes.now front f c.args.segments.now c.loop-segment.segment-index _
    c.loop-segment-test.true fault)
    c.in_err-add_relocations.ensures)

pub loop-segment-preserved : goal.loop-segment-preserved
loop-segment-preserved g c =
    c.loop-segment.invariant
    ∙ listed-more c.args.ctx c.args.bytes.now (map relocated_view c.loop-segment.found.items) (map relocated_view c.add_relocations.new.found.items)
    c.args.segments.now c.loop-segment.segment-index _ c.loop-segment-test.true c.in_ok-add_relocations.ensures
