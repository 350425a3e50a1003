-- How a pointer is signed on arm64e (`mach-o/fixup-chains.h`), and what contracts see of it.
use Rattle.std.specs.Prelude.{ℕ, Bool, Option, Some, None}
use Rattle.mach_parts.specs.declared.binding.PointerAuth.{PointerAuth}

-- how a pointer is signed
pub record Auth : Type 0 where
  pub key : ℕ
  pub diversity : ℕ
  pub is_address_diverse : Bool

abbrev pub auth_view : PointerAuth → Auth
auth_view a = record { key = a.key; diversity = a.diversity; is_address_diverse = a.is_address_diverse }

abbrev pub auth_option_view : Option PointerAuth → Option Auth
auth_option_view None = None
auth_option_view (Some a) = Some (auth_view a)
