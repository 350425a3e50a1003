use Rattle.std.proofs.lemmas.Result.{err_from_is_err_and}
use Rattle.mach_base.proofs.Faults.{ErrorMeets-in}
use Rattle.machfat.specs.Faults.{of_32_bits}
use Rattle.machfat.specs.Refusals.{FatFault}
use Rattle.machfat.proofs.Reported.{want_has_no_kind}
use Rattle.machfat.proofs.verify.narrow_faults.Goals as goal

pub returns-clause-faults : goal.returns-clause-faults
returns-clause-faults c = of_32_bits c.in_ok-test_fat.ensures.fat c.in_ok-container_faults.ensures.listed

pub returns-in_err-container_faults-clause-refused : goal.returns-in_err-container_faults-clause-refused
returns-in_err-container_faults-clause-refused c =
    let p = err_from_is_err_and c.from_residual-in_err-container_faults.result c.from_residual-in_err-container_faults.ensures.1 in
    let e = c.in_err-container_faults.field-0.0 in
    let want = c.in_err-container_faults.ensures.only in
    rw (p.1, p.2) (ErrorMeets-in (λ f. ⊥) (FatFault c.args.bytes.now) e (λ f none. absurd none) want, want_has_no_kind c.args.bytes.now e want)
