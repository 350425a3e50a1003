use Rattle.std.proofs.Common.{◌≡◌, length}
use Rattle.std.specs.Str.{bytes_eq}
use Rattle.mach_signature.specs.EntitlementSpans.{spelled_text}
use Rattle.mach_signature.specs.EntitlementViews.{seen_span, spelled_left}
use Rattle.mach_signature.proofs.entitlements.spelling.same_text.Given as goal

-- what is left of both is the same exactly if all is
abbrev pub invariant-bytes : goal.invariant-bytes
invariant-bytes l =
    bytes_eq (spelled_left l.left) (spelled_left l.other_left) ≡ bytes_eq (spelled_text (seen_span l.first)) (spelled_text (seen_span l.second))

abbrev pub decreases-bytes : goal.decreases-bytes
decreases-bytes l = length (spelled_left l.left)
