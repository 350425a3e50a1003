use Rattle.mach_base.proofs.Faults.{ErrorMeets-in}
use Rattle.goblin_mach.specs.View.{ViewFault, of_file}
use Rattle.machaudit.specs.Selected.{of_refused}
use Rattle.machaudit.proofs.selection.selected_of.Goals as goal

pub returns-in-Err : goal.returns-in-Err
returns-in-Err g c =
    let e = c.in-Err.field-0 in
    of_refused e (ErrorMeets-in _ (ViewFault c.args.bytes.now) e of_file c.in-Err.ensures.refused)
