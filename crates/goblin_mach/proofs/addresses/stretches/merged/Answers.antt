use Rattle.std.proofs.Common.{List, sym, subst}
use Rattle.goblin_mach.specs.declared.addresses.stretches.Change.{Change}
use Rattle.goblin_mach.proofs.Changes.{AreMerged, next_merged}
use Rattle.goblin_mach.proofs.addresses.stretches.merged.Goals as goal

pub changes-preserved : goal.changes-preserved
changes-preserved g c =
    let more = c.in-Some.more in
    let others = c.in-Some.others in
    subst (λ (all : List Change). AreMerged c.args.first.now c.args.second.now more others all) (sym c.in_ok-push.ensures.items)
    (next_merged c.args.first.now c.args.second.now c.changes.i c.changes.j more others c.in-Some.start c.changes.changes.items _ _ _ c.changes.invariant
    c.requires.first c.requires.second c.in-Some.ensures c.or-holder.ensures c.holder_after.ensures c.holder_after-in-Some.ensures)
