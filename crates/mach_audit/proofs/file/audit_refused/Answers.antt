use Rattle.mach_audit.proofs.file.audit_refused.Goals as goal

pub returns-in-Ok-Binary-clause-reported : goal.returns-in-Ok-Binary-clause-reported
returns-in-Ok-Binary-clause-reported g c =
    let opened = rw c.in-Ok-Binary.field-0-is at c.in-Ok-Binary.ensures.opened in
    rw c.in_ok-parts-in-Ok-Binary.was at (c.audit_parts.ensures.reported c.args.bytes.now opened)
