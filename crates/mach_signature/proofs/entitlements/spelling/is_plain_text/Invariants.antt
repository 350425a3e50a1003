use Rattle.std.proofs.Common.{◌≡◌, length}
use Rattle.mach_signature.specs.EntitlementTexts as defined
use Rattle.mach_signature.proofs.entitlements.spelling.is_plain_text.Given as goal

-- what is left can be read exactly if all can
abbrev pub invariant-bytes : goal.invariant-bytes
invariant-bytes l = defined.is_plain_text l.left ≡ defined.is_plain_text l.text

abbrev pub decreases-bytes : goal.decreases-bytes
decreases-bytes l = length l.left
