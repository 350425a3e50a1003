use Rattle.std.proofs.Common.{◌≤◌, ◌/◌, ◌+◌, ℕ, length, arith, subst, sym}
use Rattle.std.proofs.lemmas.Result.{IfOk-weaker}
use Rattle.goblin_mach.specs.Stretches.{ReportHolders}
use Rattle.goblin_mach.proofs.Changes.{halves_report}
use Rattle.goblin_mach.proofs.addresses.stretches.+changes_of.Goals as goal

pub returns-in_ok-clone-in_default-clause-reported : goal.returns-in_ok-clone-in_default-clause-reported
returns-in_ok-clone-in_default-clause-reported g t c =
    let all = c.args.stretches.now in
    let half : ℕ = length all / 2 in
    let n = c.args.number in
    let inside : half ≤ length all = omega arith in
    IfOk-weaker c.merged.result _ _ (λ v both. halves_report n half all c.split_at.result.0.now c.split_at.result.1.now c.deref.result.now
    c.deref-in_default.result.now v.items inside c.split_at.ensures.front c.split_at.ensures.back
    (subst (ReportHolders n c.split_at.result.0.now) (sym c.deref.ensures.value) c.in_ok-first-in_default.ensures.reported)
    (subst (ReportHolders (n + half) c.split_at.result.1.now) (sym c.deref-in_default.ensures.value) c.in_ok-second-in_default.ensures.reported) both)
    c.merged.ensures.reported
