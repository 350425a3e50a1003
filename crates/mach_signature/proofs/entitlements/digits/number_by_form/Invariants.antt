use Rattle.std.proofs.Common.{◌≡◌, length}
use Rattle.mach_signature.specs.EntitlementNumbers as defined
use Rattle.mach_signature.proofs.entitlements.digits.number_by_form.Given as goal

-- the number of the rest by the rest of the form is that of all
abbrev pub invariant-digits : goal.invariant-digits
invariant-digits l = defined.number_by_form l.forms l.number l.left ≡ defined.number_by_form l.form 0 l.bytes

abbrev pub decreases-digits : goal.decreases-digits
decreases-digits l = length l.forms
