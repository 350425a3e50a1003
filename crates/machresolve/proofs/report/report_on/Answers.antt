use Rattle.std.proofs.Common.{map}
use Rattle.std.proofs.lemmas.Result.{IfOk-weaker}
use Rattle.mach_resolve.specs.Opened.{given_view}
use Rattle.machresolve.specs.ReportViews.{report_view}
use Rattle.machresolve.proofs.Counts.{report_few}
use Rattle.mach_resolve.proofs.Cpus.{archive_fault, input_fault, narrow_table, wide_table}
use Rattle.machresolve.proofs.Reports.{of_numbers}
use Rattle.machresolve.proofs.Reports.{file_refused}
use Rattle.machresolve.proofs.report.report_on.Goals as goal

pub returns-in-Ok-Image-clause-few : goal.returns-in-Ok-Image-clause-few
returns-in-Ok-Image-clause-few g c =
    let arm = c.in-Ok-Image in
    let p = given_view c.args.program in
    IfOk-weaker c.report_image.result _ _
    (λ r reported. report_few c.args.limit p (map given_view c.args.libraries.now) c.args.wanted (report_view r) reported)
    (c.report_image.ensures.reported (of_numbers p.bytes arm.image ((rw (arm.is, arm.field-0-is) at c.parse.ensures.opened).1)))

pub returns-in-Ok-Fat-clause-reported : goal.returns-in-Ok-Fat-clause-reported
returns-in-Ok-Fat-clause-reported g c =
    let arm = c.in-Ok-Fat in
    c.report_fat.ensures.reported (narrow_table (given_view c.args.program).bytes arm.container (rw (arm.is, arm.field-0-is) at c.parse.ensures.opened))

pub returns-in-Ok-Fat-clause-few : goal.returns-in-Ok-Fat-clause-few
returns-in-Ok-Fat-clause-few g c =
    let arm = c.in-Ok-Fat in
    let p = given_view c.args.program in
    IfOk-weaker c.report_fat.result _ _
    (λ r reported. report_few c.args.limit p (map given_view c.args.libraries.now) c.args.wanted (report_view r) reported)
    (c.report_fat.ensures.reported (narrow_table p.bytes arm.container (rw (arm.is, arm.field-0-is) at c.parse.ensures.opened)))

pub returns-in-Ok-Fat64-clause-reported : goal.returns-in-Ok-Fat64-clause-reported
returns-in-Ok-Fat64-clause-reported g c =
    let arm = c.in-Ok-Fat64 in
    c.report_fat-in-Ok-Fat64.ensures.reported
    (wide_table (given_view c.args.program).bytes arm.container (rw (arm.is, arm.field-0-is) at c.parse.ensures.opened))

pub returns-in-Ok-Fat64-clause-few : goal.returns-in-Ok-Fat64-clause-few
returns-in-Ok-Fat64-clause-few g c =
    let arm = c.in-Ok-Fat64 in
    let p = given_view c.args.program in
    IfOk-weaker c.report_fat-in-Ok-Fat64.result _ _
    (λ r reported. report_few c.args.limit p (map given_view c.args.libraries.now) c.args.wanted (report_view r) reported)
    (c.report_fat-in-Ok-Fat64.ensures.reported (wide_table p.bytes arm.container (rw (arm.is, arm.field-0-is) at c.parse.ensures.opened)))

pub returns-in-Ok-Archive-clause-reported : goal.returns-in-Ok-Archive-clause-reported
returns-in-Ok-Archive-clause-reported g c =
    let arm = c.in-Ok-Archive in
    let p = given_view c.args.program in
    let e = c.archive_error.result in
    let occurs = archive_fault p.bytes e ((rw (arm.is, arm.field-0-is) at c.parse.ensures.opened).0) c.archive_error.ensures in
    IfOk-weaker c.report_refused.result _ _
    (λ r reported. file_refused c.args.limit p (map given_view c.args.libraries.now) c.args.wanted e (report_view r) reported occurs)
    c.report_refused.ensures.reported

pub returns-in-Err-clause-reported : goal.returns-in-Err-clause-reported
returns-in-Err-clause-reported g c =
    let p = given_view c.args.program in
    let e = c.in-Err.error in
    let occurs = input_fault p.bytes e c.in-Err.ensures.refused in
    IfOk-weaker c.report_refused-in-Err.result _ _
    (λ r reported. file_refused c.args.limit p (map given_view c.args.libraries.now) c.args.wanted e (report_view r) reported occurs)
    c.report_refused-in-Err.ensures.reported
