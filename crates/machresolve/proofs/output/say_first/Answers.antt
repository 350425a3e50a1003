use Rattle.std.proofs.Common.{ap}
use Rattle.machresolve.specs.Lines.{first_message}
use Rattle.machresolve.specs.CallViews.{call_view_of}
use Rattle.machresolve.specs.ReportViews.{report_view}
use Rattle.machresolve.proofs.Printed.{nothing_written}
use Rattle.machresolve.proofs.output.say_first.Goals as goal

pub returns-in-Entries : goal.returns-in-Entries
returns-in-Entries g c =
    nothing_written (g.E.Write.contents c.args.err.now) _ (ap (λ x. first_message (call_view_of c.args.call.now) (report_view x)) c.in-Entries.is)
