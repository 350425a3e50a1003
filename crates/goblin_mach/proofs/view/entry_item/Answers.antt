use Rattle.goblin_mach.specs.FatEntry.{entry_at, FatEntryFault}
use Rattle.goblin_mach.specs.FatFile.{file_view}
use Rattle.goblin_mach.specs.View.{ItemFault, of_entry}
use Rattle.goblin_mach.proofs.Views.{reports}
use Rattle.goblin_mach.proofs.view.entry_item.Goals as goal

pub returns-in_ok-reported-in-Err-clause-item : goal.returns-in_ok-reported-in-Err-clause-item
returns-in_ok-reported-in-Err-clause-item g c =
    let entry = entry_at (file_view c.args.container.now) c.args.index in
    let same = c.in_ok-reported-in-Err.ensures.same in
    reports (FatEntryFault entry) (ItemFault entry) c.in_ok-reported-in-Err.field-0 same.1 (λ f fault. of_entry f fault)
    (rw same.0 (rw c.in-Err.is at c.get.ensures.refused))

pub returns-in-Ok-clause-item : goal.returns-in-Ok-clause-item
returns-in-Ok-clause-item g c =
    let opened = rw c.in-Ok.is at c.get.ensures.opened in
    rw opened.1 (c.opened_item.ensures.item opened.0 opened.2)
