use Rattle.std.proofs.Common.{◌≡◌, ◌++◌, List}
use Rattle.mach_signature.specs.AsSigned.{SignatureFaultView}
use Rattle.mach_signature.specs.FaultViews.{signature_faults_left}
use Rattle.mach_audit.specs.Signed.{ReportsSignatureFaults}
use Rattle.mach_audit.proofs.signed.audit_signed.Given as goal

abbrev pub invariant-faults : goal.invariant-faults
invariant-faults g l =
    (done : List SignatureFaultView) × (signature_faults_left l.fn.faults ≡ done ++ signature_faults_left l.fault-iterator)
    × ReportsSignatureFaults done l.part
