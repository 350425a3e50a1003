use Rattle.std.proofs.Common.{ap}
use Rattle.machresolve.specs.Lines.{refusal_message}
use Rattle.machresolve.specs.CallViews.{call_view_of}
use Rattle.machresolve.specs.ReportViews.{outcome_view}
use Rattle.machresolve.proofs.Printed.{nothing_written}
use Rattle.machresolve.proofs.output.say_refusal.Goals as goal

pub returns-in-Answered : goal.returns-in-Answered
returns-in-Answered g c =
    nothing_written (g.E.Write.contents c.args.err.now) _ (ap (λ x. refusal_message (call_view_of c.args.call.now) (outcome_view x)) c.in-Answered.is)

pub returns-in-Archive : goal.returns-in-Archive
returns-in-Archive g c =
    nothing_written (g.E.Write.contents c.args.err.now) _ (ap (λ x. refusal_message (call_view_of c.args.call.now) (outcome_view x)) c.in-Archive.is)
