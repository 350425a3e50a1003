use Rattle.goblin_mach.specs.FatEntry.{arch_entry_in}
use Rattle.goblin_mach.specs.FatFile.{file_view}
use Rattle.goblin_mach.proofs.ImageFacts.{strict-lossy}
use Rattle.mach_audit.proofs.Entries.{archive_judged, entry_judged, entry_opens, unopened_judged}
use Rattle.mach_audit.proofs.Reports.{archive_reported, entry_reported, entry_refused, refused_faulty}
use Rattle.mach_audit.specs.Verdicts.{verdict_of_parts}
use Rattle.mach_audit.proofs.file.audit_entry.Goals as goal

pub returns-in_ok-archive-in-Ok-Archive-clause-reported : goal.returns-in_ok-archive-in-Ok-Archive-clause-reported
returns-in_ok-archive-in-Ok-Archive-clause-reported g c = λ here.
    let entry = arch_entry_in g.R.ArchRecord.arch_form (file_view c.args.container.now) c.args.index in
    let opened = rw c.in-Ok-Archive.field-0-is at c.in-Ok-Archive.ensures.opened in
    archive_reported _ c.args.limit entry opened.0 _ c.in_ok-archive-in-Ok-Archive.archive opened.1 opened.2
    c.in_ok-archive-in-Ok-Archive.ensures.reported

pub returns-in_ok-archive-in-Ok-Archive-clause-judged : goal.returns-in_ok-archive-in-Ok-Archive-clause-judged
returns-in_ok-archive-in-Ok-Archive-clause-judged g c =
    let entry = arch_entry_in g.R.ArchRecord.arch_form (file_view c.args.container.now) c.args.index in
    let opened = rw c.in-Ok-Archive.field-0-is at c.in-Ok-Archive.ensures.opened in
    archive_judged _ c.args.limit entry opened.0 _ _ opened.1 opened.2
    c.in_ok-archive-in-Ok-Archive.ensures.judged

pub returns-in_ok-parts-in-Ok-MachO-clause-reported : goal.returns-in_ok-parts-in-Ok-MachO-clause-reported
returns-in_ok-parts-in-Ok-MachO-clause-reported g c = λ here.
    let entry = arch_entry_in g.R.ArchRecord.arch_form (file_view c.args.container.now) c.args.index in
    let m = c.in-Ok-MachO.image in
    let opened = rw c.in-Ok-MachO.field-0-is at c.in-Ok-MachO.ensures.opened in
    entry_reported c.args.limit entry opened.0 m c.in_ok-parts-in-Ok-MachO.parts opened.1 opened.2
    (λ bytes image. rw c.in_ok-parts-in-Ok-MachO.was at (c.audit_parts.ensures.reported bytes (strict-lossy bytes 0 m image)))

pub returns-in_ok-parts-in-Ok-MachO-clause-judged : goal.returns-in_ok-parts-in-Ok-MachO-clause-judged
returns-in_ok-parts-in-Ok-MachO-clause-judged g c =
    let entry = arch_entry_in g.R.ArchRecord.arch_form (file_view c.args.container.now) c.args.index in
    let m = c.in-Ok-MachO.image in
    let opened = rw c.in-Ok-MachO.field-0-is at c.in-Ok-MachO.ensures.opened in
    entry_judged c.args.limit entry opened.0 m (verdict_of_parts c.in_ok-parts-in-Ok-MachO.parts)
    opened.1 opened.2 (λ slice image. rw c.in_ok-parts-in-Ok-MachO.was at (c.audit_parts.ensures.judged slice image))

pub returns-in_ok-image-in-Err-clause-reported : goal.returns-in_ok-image-in-Err-clause-reported
returns-in_ok-image-in-Err-clause-reported g c = λ here.
    let entry = arch_entry_in g.R.ArchRecord.arch_form (file_view c.args.container.now) c.args.index in
    let reason = c.in_ok-image-in-Err.ensures.reason in
    entry_refused c.args.limit c.args.bytes.now entry c.in-Err.error c.in_ok-image-in-Err.image
    here reason.0 reason.1 c.in-Err.ensures.refused c.in_ok-image-in-Err.ensures.reported

pub returns-in_ok-image-in-Err-clause-judged : goal.returns-in_ok-image-in-Err-clause-judged
returns-in_ok-image-in-Err-clause-judged g c =
    let entry = arch_entry_in g.R.ArchRecord.arch_form (file_view c.args.container.now) c.args.index in
    let reason = c.in_ok-image-in-Err.ensures.reason in
    rw (refused_faulty c.in-Err.error c.in_ok-image-in-Err.image reason.0)
    (unopened_judged c.in-Err.error (entry_opens entry)
    (λ opens. rw c.in-Err.is at (c.get.ensures.only opens)) reason.1)
