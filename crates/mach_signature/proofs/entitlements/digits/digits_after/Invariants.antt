use Rattle.std.proofs.Common.{◌≡◌, length}
use Rattle.mach_signature.specs.EntitlementNumbers as defined
use Rattle.mach_signature.proofs.entitlements.digits.digits_after.Given as goal

-- the number of the rest after this one is that of all
abbrev pub invariant-digits : goal.invariant-digits
invariant-digits l = defined.digits_after l.digits l.number l.left ≡ defined.digits_after l.digits 0 l.bytes

abbrev pub decreases-digits : goal.decreases-digits
decreases-digits l = length l.left
