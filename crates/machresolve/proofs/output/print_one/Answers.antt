use Rattle.std.proofs.Common.{ap}
use Rattle.machresolve.specs.Lines.{one_text}
use Rattle.machresolve.specs.CallViews.{call_view_of}
use Rattle.machresolve.specs.ReportViews.{outcome_view}
use Rattle.machresolve.proofs.Printed.{nothing_written}
use Rattle.machresolve.proofs.output.print_one.Goals as goal

pub returns-in-Refused : goal.returns-in-Refused
returns-in-Refused g c = nothing_written (g.O.Write.contents c.args.out.now) _ (ap (λ x. one_text (call_view_of c.args.call.now)
    (outcome_view x)) c.in-Refused.is)
