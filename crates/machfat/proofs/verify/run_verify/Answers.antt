use Rattle.std.proofs.Common.{arith}
use Rattle.machfat.proofs.Verified.{faulty_or_refused}
use Rattle.machfat.proofs.verify.run_verify.Goals as goal

pub returns-clause-faulty : goal.returns-clause-faulty
returns-clause-faulty g c = λ one.
    rw c.most_items.ensures at
    (faulty_or_refused c.most_items.result c.args.bytes.now c.args.file.now c.verify-answer.result _ _ _ _ _ c.verify-answer.ensures.reported
    c.verify-answer.ensures.refused (c.reported.ensures.kept (omega (arith, one))) (c.reported.ensures.refused one))
