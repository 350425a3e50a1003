use Rattle.std.proofs.Common.{◌≡◌, ◌-◌}
use Rattle.std.specs.Prelude.{find}
use Rattle.std.specs.List.{range_with_len}
use Rattle.mach_signature.specs.SignViews.{signature_view}
use Rattle.mach_c_places.specs.SignaturePlaces.{first_directory_of, is_directory_of}
use Rattle.mach_c_places.proofs.signature.places.first_directory.Given as goal

abbrev pub invariant-loop-index : goal.invariant-loop-index
invariant-loop-index l =
    let s = signature_view l.signature in
    find (is_directory_of l.hash_type s) (range_with_len l.index (l.signature.count - l.index)) ≡ first_directory_of l.hash_type s
