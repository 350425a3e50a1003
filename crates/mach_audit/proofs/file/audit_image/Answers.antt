use Rattle.goblin_mach.proofs.ImageFacts.{strict-lossy}
use Rattle.goblin_mach.specs.Image.{ImageFault}
use Rattle.goblin_mach.specs.OpenImage.{commands_view}
use Rattle.mach_audit.proofs.Entries.{unopened_judged}
use Rattle.mach_audit.proofs.Reports.{refused_faulty, refused_reported}
use Rattle.mach_audit.proofs.file.audit_image.Goals as goal

pub returns-in_ok-parts-in-Ok-clause-reported : goal.returns-in_ok-parts-in-Ok-clause-reported
returns-in_ok-parts-in-Ok-clause-reported g c =
    let bytes = c.args.bytes.now in
    let m = c.in-Ok.image in
    let opened = c.in-Ok.ensures.opened in
    ((opened.ctx, commands_view m, opened.opens), rw c.in_ok-parts-in-Ok.was at (c.audit_parts.ensures.reported bytes (strict-lossy bytes 0 m opened)))

pub returns-in_ok-parts-in-Ok-clause-judged : goal.returns-in_ok-parts-in-Ok-clause-judged
returns-in_ok-parts-in-Ok-clause-judged g c = rw c.in_ok-parts-in-Ok.was at (c.audit_parts.ensures.judged c.args.bytes.now c.in-Ok.ensures.opened)

pub returns-in_ok-image-in-Err-clause-reported : goal.returns-in_ok-image-in-Err-clause-reported
returns-in_ok-image-in-Err-clause-reported g c =
    let reason = c.in_ok-image-in-Err.ensures.reason in
    refused_reported (ImageFault c.args.bytes.now 0) c.args.limit c.args.bytes.now c.in-Err.error c.in_ok-image-in-Err.image reason.0 reason.1
    c.in-Err.ensures.refused c.in_ok-image-in-Err.ensures.reported

pub returns-in_ok-image-in-Err-clause-judged : goal.returns-in_ok-image-in-Err-clause-judged
returns-in_ok-image-in-Err-clause-judged g c =
    let reason = c.in_ok-image-in-Err.ensures.reason in
    rw (refused_faulty c.in-Err.error c.in_ok-image-in-Err.image reason.0)
    (unopened_judged c.in-Err.error (λ s. s.opens) (λ opens. rw c.in-Err.is at (c.parse.ensures.only opens)) reason.1)
