use Rattle.std.proofs.Common.{map, sym, subst}
use Rattle.std.proofs.lemmas.Result.{IfOk-weaker}
use Rattle.mach_resolve.specs.Opened.{given_view}
use Rattle.machresolve.specs.Report.{IsProgramReport}
use Rattle.machresolve.specs.ReportViews.{report_view}
use Rattle.machresolve.proofs.Reports.{image_of_another, image_of_selected, one_of_all}
use Rattle.machresolve.proofs.report.report_image.Goals as goal

pub returns-in-Some-clause-reported : goal.returns-in-Some-clause-reported
returns-in-Some-clause-reported g c = λ has.
    image_of_another c.args.limit (given_view c.args.program) (map given_view c.args.libraries.now) c.args.wanted _ c.in-Some.cpu c.args.cputype
    c.args.cpusubtype c.takes.result c.in-Some.is c.in-Some.cpu-is has c.takes.ensures c.if-not-takes.true

pub returns-in-Some-2-clause-reported : goal.returns-in-Some-2-clause-reported
returns-in-Some-2-clause-reported g c = λ has.
    let p = given_view c.args.program in
    let ls = map given_view c.args.libraries.now in
    IfOk-weaker c.report_one.result _ _
    (λ r one. image_of_selected c.args.limit p ls c.args.wanted _ c.in-Some.cpu c.args.cputype c.args.cpusubtype c.takes.result (report_view r)
    c.in-Some.is c.in-Some.cpu-is has c.takes.ensures c.if-not-takes.false one)
    c.report_one.ensures.reported

pub returns-in-None-clause-reported : goal.returns-in-None-clause-reported
returns-in-None-clause-reported g c = λ has.
    let p = given_view c.args.program in
    let ls = map given_view c.args.libraries.now in
    IfOk-weaker c.report_one-in-None.result _ _
    (λ r one. subst (λ w. IsProgramReport c.args.limit p ls w (report_view r)) (sym c.in-None.is)
    (one_of_all c.args.limit p ls c.args.cputype c.args.cpusubtype (report_view r) has one))
    c.report_one-in-None.ensures.reported
