use Rattle.machaudit.specs.Audited.{audits, out_of_memory}
use Rattle.machaudit.proofs.audits.AuditsFileViewBufWriter.show.Goals as goal

pub returns-in-Ok-clause-shown : goal.returns-in-Ok-clause-shown
returns-in-Ok-clause-shown g c = λ small. audits c.in-Ok.status c.in-Ok.ensures.sound c.in-Ok.ensures.written

pub returns-in-Err-Memory-clause-shown : goal.returns-in-Err-Memory-clause-shown
returns-in-Err-Memory-clause-shown g c = λ small.
    let arm = c.in-Err-Memory in
    rw c.refuse.ensures (out_of_memory (rw (arm.is, arm.field-0-is) at c.run_for.ensures.memory))
