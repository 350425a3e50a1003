use Rattle.std.proofs.Common.{map}
use Rattle.std.proofs.lemmas.Result.{IfOk-weaker}
use Rattle.mach_cli.specs.Cpus.{is_of_cpu}
use Rattle.mach_resolve.specs.Opened.{given_view}
use Rattle.machresolve.specs.Report.{entry, no_entry}
use Rattle.machresolve.specs.ReportViews.{outcome_view, report_view}
use Rattle.mach_resolve.proofs.Cpus.{finds, search_fault}
use Rattle.machresolve.proofs.Reports.{search_refused}
use Rattle.machresolve.proofs.report.report_entry.Goals as goal

pub returns-in-Ok-clause-reported : goal.returns-in-Ok-clause-reported
returns-in-Ok-clause-reported g c = λ has.
    let arm = c.in-Ok-Some in
    entry c.args.cpu _ (outcome_view c.in-Ok.outcome)
    (finds g.R.ArchRecord.arch_form (given_view c.args.program).bytes c.args.container.now (is_of_cpu c.args.cpu) _ has
    (rw (arm.is, arm.field-0-is) at c.find_entry.ensures))
    c.in-Ok.ensures.reported

pub returns-in-Ok-None-clause-reported : goal.returns-in-Ok-None-clause-reported
returns-in-Ok-None-clause-reported g c = λ has.
    let arm = c.in-Ok-None in
    no_entry c.args.cpu
    (finds g.R.ArchRecord.arch_form (given_view c.args.program).bytes c.args.container.now (is_of_cpu c.args.cpu) _ has
    (rw (arm.is, arm.field-0-is) at c.find_entry.ensures))

pub returns-in-Err-clause-reported : goal.returns-in-Err-clause-reported
returns-in-Err-clause-reported g c = λ has.
    let p = given_view c.args.program in
    let cpu = c.args.cpu in
    let e = c.in-Err.error in
    IfOk-weaker c.report_refused.result _ _
    (λ r reported. search_refused c.args.limit p (map given_view c.args.libraries.now) cpu e (report_view r) reported
    (search_fault g.R.ArchRecord.arch_form p.bytes c.args.container.now (is_of_cpu cpu) e has c.in-Err.ensures))
    c.report_refused.ensures.reported
