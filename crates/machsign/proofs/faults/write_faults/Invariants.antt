use Rattle.std.proofs.Common.{List, length, map}
use Rattle.std.specs.Io.KnownBytes.{Appends}
use Rattle.mach_parts.specs.Segment.{segment_view}
use Rattle.mach_signature.specs.AsSigned.{signature_faults_of}
use Rattle.mach_signature.specs.FaultViews.{signature_faults_left, signed_view}
use Rattle.mach_signature.specs.declared.fault.SignatureFault.{SignatureFault}
use Rattle.machsign.specs.Faults.{faults_text}
use Rattle.mach_signature.specs.Pages.{is_shown}
use Rattle.machsign.proofs.ListProgress.{Passes}
use Rattle.machsign.proofs.faults.write_faults.Given as goal

abbrev pub invariant-faults : goal.invariant-faults
invariant-faults g l =
    let x = signed_view l.signed in
    (done : List SignatureFault) × Passes (is_shown x) l.limit (signature_faults_of x) (signature_faults_left l.faults) l.left l.whole done
    × Appends (g.O.Write.contents l.fn.out) (g.O.Write.contents l.out) (faults_text l.form (map segment_view l.segments) done)

abbrev pub decreases-faults : goal.decreases-faults
decreases-faults g l = length (signature_faults_left l.faults)
