use Rattle.std.proofs.Common.{◌≡◌, ◌∙◌, ◌+◌, ◌++◌, ◌∷◌, [], map, take, sym, ap, subst, arith}
use Rattle.std.specs.Prelude.{sum_by}
use Rattle.std.proofs.lemmas.List.{map_push, take_more}
use Rattle.std.proofs.lemmas.List.Sums.{sum_by_push}
use Rattle.mach_resolve.specs.Cpu.{entry_bytes}
use Rattle.mach_resolve.specs.Opened.{given_view}
use Rattle.machresolve.specs.Report.{answer_count, AreEntryOutcomes}
use Rattle.machresolve.specs.ReportViews.{outcome_view}
use Rattle.machresolve.proofs.Counts.{entry_few, outcomes_more}
use Rattle.machresolve.proofs.report.entry_outcomes.Goals as goal

pub overflow_sub-left : goal.overflow_sub-left
overflow_sub-left g c =
    let p = given_view c.args.program in
    let ls = map given_view c.args.libraries.now in
    let o = outcome_view c.in-Ok.outcome in
    omega (
      arith,
      entry_few c.arches.left _ ls o c.in-Ok.ensures.reported,
      c.answer_count-left.ensures,
    )

pub arches-preserved : goal.arches-preserved
arches-preserved g c =
    let limit = c.args.limit in
    let p = given_view c.args.program in
    let ls = map given_view c.args.libraries.now in
    let arches = c.args.arches.now in
    let bytes_of = entry_bytes g.R.ArchRecord.arch_form p.bytes in
    let i = c.arches.arch-index in
    let item = c.arch-item.result in
    let taken = ap (map bytes_of) (take_more arches i item c.arches-test.true ∙ ap (λ arch. take i arches ++ arch ∷ []) (sym c.arch-item.is))
    ∙ map_push bytes_of (take i arches) item in
    let os = map outcome_view c.arches.outcomes.items in
    let o = outcome_view c.in-Ok.outcome in
    let all = ap (map outcome_view) c.in_ok-push-in-Ok.ensures.items ∙ map_push outcome_view c.arches.outcomes.items c.in-Ok.outcome in
    let more : sum_by answer_count (os ++ o ∷ []) ≡ sum_by answer_count os + answer_count o = sum_by_push answer_count os o in (
      subst (AreEntryOutcomes limit p ls (map bytes_of (take (i + 1) arches))) (sym all)
          (subst (λ xs. AreEntryOutcomes limit p ls xs (os ++ o ∷ [])) (sym taken)
          (outcomes_more limit c.arches.left p ls (map bytes_of (take i arches)) os (bytes_of item) o c.arches.invariant.1 c.arches.invariant.0
          c.in-Ok.ensures.reported)),
      omega (arith, c.arches.invariant.1, c.answer_count-left.ensures, more, ap (sum_by answer_count) all),
    )
