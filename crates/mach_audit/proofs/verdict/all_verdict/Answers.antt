use Rattle.std.proofs.Common.{◌+◌, ◌∙◌, drop, get_or, sym, ap}
use Rattle.std.proofs.lemmas.List.{at_drop_more}
use Rattle.mach_audit.proofs.Judgements.{both_assoc}
use Rattle.mach_audit.specs.Verdicts.{verdict_of_all, verdict_of_both}
use Rattle.mach_audit.proofs.verdict.all_verdict.Goals as goal

pub things-preserved : goal.things-preserved
things-preserved g c =
    let one = g.T.Judged.judgement in
    let things = c.args.things.now in
    let i = c.things.thing-index in
    let d = c.thing-item.result in
    let before = c.things.verdict in
    let rest = verdict_of_all one (drop (i + 1) things) in
    let here = c.judge.ensures ∙ ap one c.thing-item.is in
    ap (λ v. verdict_of_both v rest) (c.and-verdict.ensures ∙ ap (verdict_of_both before) here)
    ∙ both_assoc before (one (get_or things i d)) rest
    ∙ ap (verdict_of_both before) (sym (at_drop_more (verdict_of_all one) things i d c.things-test.true))
    ∙ c.things.invariant
