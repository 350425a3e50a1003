use Rattle.std.proofs.Common.{ap}
use Rattle.machresolve.specs.Lines.{printed}
use Rattle.machresolve.specs.CallViews.{call_view_of}
use Rattle.machresolve.specs.ReportViews.{report_view}
use Rattle.machresolve.proofs.Printed.{nothing_written}
use Rattle.machresolve.proofs.output.print_whole.Goals as goal

pub returns-in-Nothing : goal.returns-in-Nothing
returns-in-Nothing g c = nothing_written (g.O.Write.contents c.args.out.now) _ (ap (λ x. printed (call_view_of c.args.call.now)
    (report_view x)) c.in-Nothing.is)
