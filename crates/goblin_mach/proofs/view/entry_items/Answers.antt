use Rattle.std.proofs.Common.{arith}
use Rattle.goblin_mach.specs.FatEntry.{entry_at, entries_of}
use Rattle.goblin_mach.specs.FatFile.{file_view}
use Rattle.goblin_mach.proofs.Views.{one_more_item, all_items}
use Rattle.goblin_mach.proofs.view.entry_items.Goals as goal

pub loop-index-preserved : goal.loop-index-preserved
loop-index-preserved g c =
    let file = file_view c.args.container.now in
    rw c.in_ok-push.ensures.items (one_more_item (entry_at file) c.loop-index.index file.narches c.loop-index.items.items c.in_ok-entry_item.field-0
    (entries_of file) c.loop-index-test.true c.in_ok-entry_item.ensures.item c.loop-index.invariant)

pub returns-clause-items : goal.returns-clause-items
returns-clause-items g c =
    let file = file_view c.args.container.now in
    all_items (entry_at file) c.loop-index.index file.narches c.loop-index.items.items (entries_of file) (omega (arith, c.loop-index-test.false))
    c.loop-index.invariant
