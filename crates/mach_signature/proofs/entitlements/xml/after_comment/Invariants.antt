use Rattle.std.proofs.Common.{◌≡◌, length}
use Rattle.mach_signature.specs.EntitlementXml as defined
use Rattle.mach_signature.proofs.entitlements.xml.after_comment.Given as goal

-- the comment ends in what is left
abbrev pub invariant-bytes : goal.invariant-bytes
invariant-bytes l = defined.after_comment l.left ≡ defined.after_comment l.bytes

abbrev pub decreases-bytes : goal.decreases-bytes
decreases-bytes l = length l.left
