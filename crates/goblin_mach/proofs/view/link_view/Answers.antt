use Rattle.goblin_mach.specs.View.{ViewFault, of_file}
use Rattle.goblin_mach.proofs.WholeFiles.{ok_where_viewed}
use Rattle.goblin_mach.proofs.Exits.{exit_in}
use Rattle.goblin_mach.proofs.view.link_view.Goals as goal

pub returns-in_err-file-clause-refused : goal.returns-in_err-file-clause-refused
returns-in_err-file-clause-refused g c =
    exit_in _ (ViewFault c.args.bytes.now) _ _ c.from_residual-in_err-file.ensures.1 of_file c.in_err-file.ensures.refused

pub returns-in_err-file-clause-only : goal.returns-in_err-file-clause-only
returns-in_err-file-clause-only g c = λ entries has.
    ok_where_viewed c.from_residual-in_err-file.result c.args.bytes.now entries (returns-in_err-file-clause-refused g c) has

pub returns-clause-viewed : goal.returns-clause-viewed
returns-clause-viewed g c = c.file_items.ensures.viewed c.args.bytes.now c.in_ok-file.ensures.opened

pub returns-clause-refused : goal.returns-clause-refused
returns-clause-refused g c = c.file_items.ensures.refused c.args.bytes.now c.in_ok-file.ensures.opened

pub returns-clause-only : goal.returns-clause-only
returns-clause-only g c = λ entries has.
    ok_where_viewed c.file_items.result c.args.bytes.now entries (returns-clause-refused g c) has
