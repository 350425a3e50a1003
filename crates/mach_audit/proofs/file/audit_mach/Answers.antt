use Rattle.std.proofs.Common.{ap, sym}
use Rattle.goblin_mach.proofs.FatNumbers.{file_is}
use Rattle.goblin_mach.specs.FatFile.{FatFile, file_view}
use Rattle.goblin_mach.specs.File.{MachFault}
use Rattle.goblin_mach.specs.Image.{ImageFault}
use Rattle.goblin_mach.specs.OpenImage.{commands_view}
use Rattle.goblin_mach.proofs.ImageFacts.{strict-lossy}
use Rattle.mach_audit.proofs.Entries.{image_judged, fat_judged, refused_judged}
use Rattle.mach_audit.proofs.Reports.{refused_faulty, refused_reported}
use Rattle.mach_audit.specs.Verdicts.{verdict_of_parts, verdict_of_fat}
use Rattle.mach_audit.proofs.file.audit_mach.Goals as goal

pub returns-in_ok-parts-in-Ok-Binary-clause-judged : goal.returns-in_ok-parts-in-Ok-Binary-clause-judged
returns-in_ok-parts-in-Ok-Binary-clause-judged g c =
    let bytes = c.args.bytes.now in
    let opened = rw c.in-Ok-Binary.field-0-is at c.in-Ok-Binary.ensures.opened in
    let judged = rw c.in_ok-parts-in-Ok-Binary.was at (c.audit_parts.ensures.judged bytes opened) in
    image_judged c.args.limit bytes (verdict_of_parts c.in_ok-parts-in-Ok-Binary.parts) (opened.ctx, commands_view c.in-Ok-Binary.image, opened.opens) judged

pub returns-in_ok-fat-in-Ok-Fat-clause-judged : goal.returns-in_ok-fat-in-Ok-Fat-clause-judged
returns-in_ok-fat-in-Ok-Fat-clause-judged g c =
    let opened = rw c.in-Ok-Fat.field-0-is at c.in-Ok-Fat.ensures.opened in
    fat_judged c.args.limit c.args.bytes.now (file_view c.in-Ok-Fat.container) (verdict_of_fat c.in_ok-fat-in-Ok-Fat.fat) opened.magic opened.file
    c.in_ok-fat-in-Ok-Fat.ensures.judged

pub returns-in_ok-parts-in-Ok-Binary-clause-reported : goal.returns-in_ok-parts-in-Ok-Binary-clause-reported
returns-in_ok-parts-in-Ok-Binary-clause-reported g c =
    let bytes = c.args.bytes.now in
    let opened = rw c.in-Ok-Binary.field-0-is at c.in-Ok-Binary.ensures.opened in (
      (opened.ctx, commands_view c.in-Ok-Binary.image, opened.opens),
      rw c.in_ok-parts-in-Ok-Binary.was at (c.audit_parts.ensures.reported bytes (strict-lossy bytes 0 c.in-Ok-Binary.image opened)),
    )

pub returns-in_ok-fat-in-Ok-Fat-clause-reported : goal.returns-in_ok-fat-in-Ok-Fat-clause-reported
returns-in_ok-fat-in-Ok-Fat-clause-reported g c =
    let file = file_view c.in-Ok-Fat.container in
    let opened = rw c.in-Ok-Fat.field-0-is at c.in-Ok-Fat.ensures.opened in
    let same = ap (λ (f : FatFile). f.bytes) (sym (file_is c.args.bytes.now file opened.file)) in
    (file, opened.magic, opened.file, rw c.in_ok-fat-in-Ok-Fat.was at (c.audit_fat.ensures.reported same))

pub returns-in_ok-image-in-Err-clause-reported : goal.returns-in_ok-image-in-Err-clause-reported
returns-in_ok-image-in-Err-clause-reported g c =
    let reason = c.in_ok-image-in-Err.ensures.reason in
    refused_reported (MachFault ImageFault c.args.bytes.now) c.args.limit c.args.bytes.now c.in-Err.error c.in_ok-image-in-Err.image reason.0 reason.1
    c.in-Err.ensures.refused c.in_ok-image-in-Err.ensures.reported

pub returns-in_ok-image-in-Err-clause-judged : goal.returns-in_ok-image-in-Err-clause-judged
returns-in_ok-image-in-Err-clause-judged g c =
    let reason = c.in_ok-image-in-Err.ensures.reason in
    rw (refused_faulty c.in-Err.error c.in_ok-image-in-Err.image reason.0)
    (refused_judged c.args.limit c.args.bytes.now c.in-Err.error c.in-Err.ensures.refused reason.1)
