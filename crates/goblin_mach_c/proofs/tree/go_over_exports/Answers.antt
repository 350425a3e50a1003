use Rattle.std.proofs.Common.{inr}
use Rattle.std.proofs.lemmas.Result.{on_ok_weaker, IfErr-weaker}
use Rattle.mach_base.proofs.Faults.{ErrorMeets-in}
use Rattle.mach_base.specs.Answer.{ErrorMeets}
use Rattle.goblin_mach_c.specs.ExportRows.{WalkFault}
use Rattle.goblin_mach_c.proofs.tree.go_over_exports.Goals as goal

pub returns-clause-whole : goal.returns-clause-whole
returns-clause-whole c =
    on_ok_weaker c.go_over.result (λ l. (l.0, c.walked_exports_of_image.ensures.listed.lossy _ _ c.in_ok-image.ensures.opened l.0 l.1))
    (c.go_over.ensures.whole _ _ c.in_ok-walk.ensures.given)

pub returns-clause-refused : goal.returns-clause-refused
returns-clause-refused c =
    let found = WalkFault c.args.lossy c.args.bytes.now c.args.offset in
    IfErr-weaker c.go_over.result _ (ErrorMeets found)
    (λ e. ErrorMeets-in _ found e (λ f h. inr (c.walked_exports_of_image.ensures.faults.lossy _ _ c.in_ok-image.ensures.opened f h)))
    (c.go_over.ensures.refused _ _ c.in_ok-walk.ensures.given)
