use Rattle.std.proofs.Common.{◌∙◌, map, sym, ap}
use Rattle.std.proofs.lemmas.Result.{IfOk-weaker}
use Rattle.mach_parts.specs.Magic.{begins_archive}
use Rattle.mach_resolve.specs.Opened.{given_view}
use Rattle.machresolve.specs.Report.{an_archive}
use Rattle.machresolve.specs.ReportViews.{outcome_view}
use Rattle.machresolve.proofs.Reports.{entry_image}
use Rattle.machresolve.proofs.report.entry_outcome.Goals as goal

pub returns-then-begins_whole_archive-clause-reported : goal.returns-then-begins_whole_archive-clause-reported
returns-then-begins_whole_archive-clause-reported g c =
    an_archive (ap begins_archive (sym c.entry_slice-bytes.ensures) ∙ (sym c.begins_whole_archive.ensures ∙ c.if-begins_whole_archive.true))

pub returns-else-begins_whole_archive-clause-reported : goal.returns-else-begins_whole_archive-clause-reported
returns-else-begins_whole_archive-clause-reported g c =
    IfOk-weaker c.outcome_for.result _ _
    (λ o is. entry_image c.args.limit c.args.program.path.now c.entry_slice-bytes.result.now _ (map given_view c.args.libraries.now)
    (outcome_view o) c.entry_slice-bytes.ensures
    (sym c.begins_whole_archive.ensures ∙ c.if-begins_whole_archive.false) is)
    c.outcome_for.ensures.reported
