use Rattle.std.proofs.Common.{◌≡◌, ◌≤◌, false, drop}
use Rattle.std.specs.Fmt.{digits, digits_onto}
use Rattle.mach_cli.proofs.digits.digits_in.Given as goal

abbrev pub invariant-digits : goal.invariant-digits
invariant-digits l = (l.at ≤ 64) × (digits_onto l.at l.base false l.left (drop l.at l.text) ≡ digits l.base false l.number)

abbrev pub decreases-digits : goal.decreases-digits
decreases-digits l = l.at
