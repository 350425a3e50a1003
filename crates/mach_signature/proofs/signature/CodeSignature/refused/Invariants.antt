use Rattle.std.proofs.Common.{◌≡◌, length}
use Rattle.mach_signature.specs.Chosen.{first_refused, directories_of}
use Rattle.mach_signature.specs.ChosenViews.{directories_left}
use Rattle.mach_signature.specs.SignViews.{signature_view}
use Rattle.mach_signature.proofs.signature.CodeSignature.refused.Given as goal

abbrev pub invariant-directories : goal.invariant-directories
invariant-directories l = first_refused (directories_left l.left) ≡ first_refused (directories_of (signature_view l.self))

abbrev pub decreases-directories : goal.decreases-directories
decreases-directories l = length (directories_left l.left)
