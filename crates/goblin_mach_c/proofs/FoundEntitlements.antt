-- Entitlements that were found.
use Rattle.std.proofs.Common.{◌≡◌, Option, Some, None, Result, Ok, refl}
use Rattle.mach_base.specs.Fault.{Fault}
use Rattle.mach_signature.specs.EntitlementValues.{Entitled}
use Rattle.mach_signature.specs.declared.entitlements.parts.Span.{Span}
use Rattle.goblin_mach_c.specs.EntitlementWrites.{AreFoundValues}

-- which they are, if they can be read or there are none
pub record FoundAre (values : Option Span) (found : Result (Option Entitled) Fault) : Type 0 where
  pub entitled : Option Entitled
  pub is : found ≡ Ok entitled
  pub are : AreFoundValues (Ok values) (Ok entitled)

pub found_are : (values : Option Span) (found : Result (Option Entitled) Fault) → AreFoundValues (Ok values) found → FoundAre values found
found_are None found none = record { entitled = None; is = none; are = refl }
found_are (Some values) found read = record { entitled = Some read.0.0; is = read.2; are = (read.0, read.1, refl) }
