use Rattle.std.proofs.Common.{◌≡◌, ◌++◌, [], length}
use Rattle.std.specs.Prelude.{flat_map}
use Rattle.mach_signature.specs.AsSigned.{slot_faults_of}
use Rattle.mach_signature.specs.ChosenViews.{directories_left}
use Rattle.mach_signature.specs.FaultViews.{signed_view, blobs_tested, blob_tested, kept_fault, current_left, signature_faults_left}
use Rattle.mach_signature.specs.Numbered.{reported_left}
use Rattle.mach_signature.proofs.faults.SignatureFaultsIterator.next.Given as goal

abbrev pub invariant-directories : goal.invariant-directories
invariant-directories l = record {
  blobs : reported_left blobs_tested blob_tested l.self.blobs ≡ [];
  refused : kept_fault l.self.refused ≡ [];
  left : signature_faults_left l.fn.self
      ≡ current_left l.self.current ++ flat_map (slot_faults_of (signed_view l.self.signed)) (directories_left l.self.directories);
}

abbrev pub decreases-directories : goal.decreases-directories
decreases-directories l = length (directories_left l.self.directories)
