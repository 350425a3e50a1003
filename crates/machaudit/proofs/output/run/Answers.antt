use Rattle.std.proofs.Common.{◌∙◌, ap}
use Rattle.machaudit.proofs.Quiet.{one_line}
use Rattle.machaudit.proofs.Refusals.{whole_refusal}
use Rattle.machaudit.proofs.Statuses.{status_bound, status_sound, status_whole, status_faulty}
use Rattle.mach_audit.specs.Report.{refusal_in}
use Rattle.mach_audit.specs.Verdicts.{verdict_of_report}
use Rattle.machaudit.specs.Quiet.{status_of}
use Rattle.machaudit.proofs.output.run.Goals as goal

pub returns-clause-bounds : goal.returns-clause-bounds
returns-clause-bounds g c = rw (c.status.ensures, c.verdict.ensures) (status_bound (verdict_of_report c.in-Ok.report))

pub returns-clause-sound : goal.returns-clause-sound
returns-clause-sound g c = λ zero.
    status_sound (verdict_of_report c.in-Ok.report) c.in-Ok.ensures.judged (rw (c.status.ensures, c.verdict.ensures) at zero)

pub returns-clause-whole : goal.returns-clause-whole
returns-clause-whole g c = λ zero.
    status_whole (verdict_of_report c.in-Ok.report) c.in-Ok.ensures.judged (rw (c.status.ensures, c.verdict.ensures) at zero)

pub returns-clause-faulty : goal.returns-clause-faulty
returns-clause-faulty g c = λ one.
    status_faulty (verdict_of_report c.in-Ok.report) c.in-Ok.ensures.judged (rw (c.status.ensures, c.verdict.ensures) at one)

pub returns-clause-audited : goal.returns-clause-audited
returns-clause-audited g c = let v = verdict_of_report c.in-Ok.report in record {
  verdict = v;
  is_status = c.status.ensures ∙ ap status_of c.verdict.ensures;
  judges = c.in-Ok.ensures.judged;
  one_line = one_line c.args.call.name.now v;
  quiet = c.in_ok-write_report.ensures.quiet;
  flushed = c.in_ok-write_report.ensures.flushed;
}

pub returns-clause-message : goal.returns-clause-message
returns-clause-message g c = record {
  refusal = refusal_in c.in-Ok.report;
  is_refusal = whole_refusal _ c.args.bytes.now c.in-Ok.report c.in-Ok.ensures.reported;
  message = c.in_ok-say_unless_outside.ensures;
}
