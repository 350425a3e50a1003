use Rattle.std.proofs.Common.{subst, sym}
use Rattle.mach_base.proofs.Faults.{ErrorMeets-reported}
use Rattle.mach_base.specs.Fault.{fault_of}
use Rattle.machfat.specs.Refusals.{FatFault, RefusesFaults, in_header}
use Rattle.machfat.proofs.Reported.{refuses_faults}
use Rattle.machfat.proofs.verify.wide_faults.Goals as goal

pub returns-in-Err-clause-refused : goal.returns-in-Err-clause-refused
returns-in-Err-clause-refused c =
    let bytes = c.args.bytes.now in
    let e = c.in-Err.error in
    subst (λ refusal. RefusesFaults bytes refusal) (sym c.refused_by.ensures)
    (refuses_faults bytes c.refused_kind.result e
    (ErrorMeets-reported (FatFault bytes) e (in_header (fault_of e) c.requires c.in-Err.ensures)) (sym c.refused_kind.ensures))
