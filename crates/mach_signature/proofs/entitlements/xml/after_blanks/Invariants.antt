use Rattle.std.proofs.Common.{◌≡◌, length}
use Rattle.mach_signature.specs.EntitlementXml as defined
use Rattle.mach_signature.proofs.entitlements.xml.after_blanks.Given as goal

-- white space was passed over
abbrev pub invariant-bytes : goal.invariant-bytes
invariant-bytes l = defined.after_blanks l.left ≡ defined.after_blanks l.bytes

abbrev pub decreases-bytes : goal.decreases-bytes
decreases-bytes l = length l.left
