-- The report of an image's signature.
use Rattle.std.specs.Prelude.{◌≡◌, ◌-◌, ◌^◌, List, map, take, length, min, Option, Some, None, Result, Ok, Err}
use Rattle.mach_base.specs.Fault.{Fault, fault_of}
use Rattle.mach_signature.specs.AsSigned.{SignatureFaultView}
use Rattle.mach_signature.specs.FaultViews.{signature_fault_view}
use Rattle.goblin_mach.specs.View.{IsReported}
use Rattle.mach_audit.specs.declared.report.SignaturePart.{SignaturePart}
use Rattle.mach_audit.specs.declared.report.SignatureReport.{SignatureReport}
use Rattle.mach_audit.specs.declared.report.SignatureReport.TheVariants.{Unsigned, Unreadable, Signed}

-- A part reports the first ten of these faults, and their number, or the greatest number if there are more than that.
pub record ReportsSignatureFaults {A : Type 0} (faults : List SignatureFaultView) (p : SignaturePart A) : Type 0 where
  pub reported : map signature_fault_view p.reported.items ≡ take 10 faults
  pub count : p.faults ≡ min (length faults) (2 ^ 64 - 1)

-- The report of a signature: there is none; it can't be read; or its faults.
abbrev pub ReportsSignature : {A : Type 0} → Result (Option (List SignatureFaultView)) Fault → SignatureReport A → Type 0
ReportsSignature there Unsigned = there ≡ Ok None
ReportsSignature there (Unreadable e) = IsReported e × (there ≡ Err (fault_of e))
ReportsSignature there (Signed p) = (faults : List SignatureFaultView) × (there ≡ Ok (Some faults)) × ReportsSignatureFaults faults p
