use Rattle.std.proofs.Common.{◌≡◌, ◌-◌}
use Rattle.std.specs.Prelude.{find, ◌==◌}
use Rattle.std.specs.List.{range_with_len}
use Rattle.mach_signature.specs.SuperBlob.{slot_at, first_blob_of}
use Rattle.mach_signature.specs.SignViews.{signature_view}
use Rattle.mach_signature.proofs.signature.CodeSignature.first_of.Given as goal

abbrev pub invariant-loop-index : goal.invariant-loop-index
invariant-loop-index l =
    let s = signature_view l.self in
    find (λ k. slot_at s k == l.slot) (range_with_len l.index (l.self.count - l.index)) ≡ first_blob_of s l.slot
