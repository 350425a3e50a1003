-- What contracts see of the items of entitlements in DER.
use Rattle.std.specs.Prelude.{ℕ, List}
use Rattle.std.specs.Borrow.{Bor}
use Rattle.mach_signature.specs.EntitlementDer.{DerItemView}
use Rattle.mach_signature.specs.declared.entitlements.der.Item.{Item}

abbrev pub item_view : Item → DerItemView
item_view i = record { tag = i.tag; content = i.content.now; rest = i.rest.now }

abbrev pub length_read : ℕ × Bor (List ℕ) → ℕ × List ℕ
length_read r = (r.0, r.1.now)
