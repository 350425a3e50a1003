use Rattle.std.proofs.Common.{length, sym, ap, subst}
use Rattle.goblin_mach_c.specs.Codes.{IsRefusalCode}
use Rattle.goblin_mach_c.specs.ResolveRows.{RefusesGiven}
use Rattle.goblin_mach_c.proofs.RefusedFiles.{refused_file}
use Rattle.goblin_mach_c.proofs.resolve.gmr_resolve.Goals as goal

pub returns-in-Err-clause-refused : goal.returns-in-Err-clause-refused
returns-in-Err-clause-refused c = λ _.
    let Faults = RefusesGiven (length c.args.out.now) c.args.bytes.now c.args.files.now in
    subst (λ n. IsRefusalCode (Faults n) c.refuse_failure-code.result.0) (sym (ap (λ r. r.file) c.refused_numbers.ensures))
    (refused_file Faults c.in-Err.failure c.refuse_failure-code.result.0 c.refuse_failure-code.result.1 c.refuse_failure-code.ensures.code
    c.in-Err.ensures.refused)
