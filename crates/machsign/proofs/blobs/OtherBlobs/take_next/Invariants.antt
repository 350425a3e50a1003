use Rattle.std.proofs.Common.{◌≡◌, length}
use Rattle.mach_signature.specs.SignViews.{blobs_left}
use Rattle.machsign.specs.BlobsLeft.{blobs_yet}
use Rattle.machsign.proofs.blobs.OtherBlobs.take_next.Given as goal

abbrev pub invariant-blobs : goal.invariant-blobs
invariant-blobs l = record {
  left : blobs_yet l.self ≡ blobs_yet l.initial.self;
  form : l.self.form ≡ l.initial.self.form;
}

abbrev pub decreases-blobs : goal.decreases-blobs
decreases-blobs l = length (blobs_left l.self.blobs)
