use Rattle.std.proofs.Common.{IfOk, subst}
use Rattle.machfat.specs.ShownFiles.{ShowsSelectedFiles}
use Rattle.machfat.specs.declared.shown.Selected.{Selected}
use Rattle.machfat.proofs.show_call.Goals as goal

pub returns-clause-shown : goal.returns-clause-shown
returns-clause-shown g c =
    let shows = λ (selected : Selected).
    IfOk c.show.result (ShowsSelectedFiles selected g.W.Write.contents c.args.files.now c.args.call.now.others c.args.out.now c.show.new.out)
    in
    subst shows c.selected_by.ensures c.show.ensures.shown
