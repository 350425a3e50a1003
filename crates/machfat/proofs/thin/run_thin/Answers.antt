use Rattle.std.proofs.lemmas.Result.{IfErr-at_err}
use Rattle.machfat.specs.OfCpu.{cpu_entry_in}
use Rattle.machfat.specs.Refusals.{IsRefusal, RefusesCpu}
use Rattle.machfat.proofs.Placed.{ok_then}
use Rattle.machfat.proofs.thin.run_thin.Goals as goal

pub returns-clause-thinned : goal.returns-clause-thinned
returns-clause-thinned g c = λ zero.
    ok_then _ c.thin.result (c.status.ensures.only zero) c.thin.ensures.thinned (λ whole found. (found.0, found.1, (whole, found.2)))

pub returns-clause-refused : goal.returns-clause-refused
returns-clause-refused g c = λ one.
    let reported = c.status.ensures.refused one in
    let bytes = c.args.bytes.now in
    let cpu = c.args.cpu in
    (reported.0, IfErr-at_err (IsRefusal (RefusesCpu bytes (cpu_entry_in bytes cpu) cpu)) reported.1 c.thin.ensures.refused, reported.2)
