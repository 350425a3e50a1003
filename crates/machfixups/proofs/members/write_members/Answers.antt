use Rattle.std.proofs.Common.{◌∷◌, []}
use Rattle.std.proofs.lemmas.Result.{IfOk-weaker}
use Rattle.std.specs.Prelude.{codes}
use Rattle.mach_cli.proofs.Arrays.{list_then, lists_written, one_list}
use Rattle.machfixups.specs.JsonImages.{named_objects, pointer_members}
use Rattle.machfixups.specs.RowsLeft.{image_rows_left}
use Rattle.machfixups.proofs.members.write_members.Goals as goal

pub returns : goal.returns
returns g c =
    let rows = image_rows_left c.args.rows in
    let t = c.then-reported.result in
    let second = named_objects (codes "binds") rows.binds in
    let third = named_objects (codes "weak") rows.weak in
    let fourth = named_objects (codes "chains") rows.chains in
    let chains = one_list c.in_ok-weak.weak.left fourth c.in_ok-chains.chains _ _ c.in_ok-chains.ensures in
    let last = list_then c.in_ok-binds.binds.left third (fourth ∷ []) c.in_ok-weak.weak c.in_ok-chains.chains c.then-last.result _ _ _
    c.in_ok-weak.ensures chains c.then-last.ensures in
    let rest = list_then c.in_ok-rebases.rebases.left second (third ∷ fourth ∷ []) c.in_ok-binds.binds c.then-last.result c.then-rest.result _ _ _
    c.in_ok-binds.ensures last c.then-rest.ensures in
    let all = list_then c.args.left (named_objects (codes "rebases") rows.rebases) (second ∷ third ∷ fourth ∷ []) c.in_ok-rebases.rebases
    c.then-rest.result t _ _ _ c.in_ok-rebases.ensures rest c.then-reported.ensures in
    IfOk-weaker c.print_end.result _ _
    (λ outcome ended. lists_written c.args.left (pointer_members rows) t outcome.whole outcome.left _ _ _ all ended.0 ended.1 ended.2) c.print_end.ensures
