use Rattle.mach_base.proofs.Faults.{ErrorMeets-failed}
use Rattle.goblin_mach.specs.FatFile.{arches_in, file_view}
use Rattle.goblin_mach.specs.View.{ViewFault, of_table}
use Rattle.machaudit.specs.Selected.{of_refused}
use Rattle.machaudit.proofs.selection.selected_entries.Goals as goal

pub returns-in-Err : goal.returns-in-Err
returns-in-Err g c = λ bytes magic is.
    let file = file_view c.args.container.now in
    let e = c.in-Err.field-0 in
    of_refused e (ErrorMeets-failed (ViewFault bytes) e (arches_in file) (λ f bad. of_table file f magic is bad) c.in-Err.ensures)
