use Rattle.std.proofs.Common.{map}
use Rattle.machresolve.specs.Report.{resolved}
use Rattle.mach_resolve.specs.Opened.{given_view}
use Rattle.machresolve.proofs.Reports.{refused_outcome}
use Rattle.machresolve.proofs.report.outcome_for.Goals as goal

pub returns-in-Ok-clause-reported : goal.returns-in-Ok-clause-reported
returns-in-Ok-clause-reported g c = resolved _ _ _ c.in-Ok.ensures.resolved

pub returns-in-Err-clause-reported : goal.returns-in-Err-clause-reported
returns-in-Err-clause-reported g c =
    refused_outcome c.args.limit (given_view c.args.program) (map given_view c.args.libraries.now) c.in-Err.failure c.refusal.result c.in-Err.ensures.refused
    c.refusal.ensures
