-- Entitlements, read value by value up to a number of steps.
use Rattle.std.specs.Prelude.{◌≡◌, ℕ, zero, suc, List, Option, Some, None, Result, Ok, Err}
use Rattle.mach_base.specs.Answer.{◌>>=◌}
use Rattle.mach_base.specs.Fault.{Fault, malformed}
use Rattle.mach_signature.specs.EntitlementDer.{der_front}
use Rattle.mach_signature.specs.EntitlementSpans.{SpanView, no_bytes, Unread, plain_here, group_here, FrontView, group_ends, entry_begins}
use Rattle.mach_signature.specs.EntitlementValues.{Entitlement, plain, group, Entitled, nothing, entry}
use Rattle.mach_signature.specs.EntitlementXml.{xml_front}
use Rattle.mach_signature.specs.declared.entitlements.parts.Group.{Group}
use Rattle.mach_signature.specs.declared.entitlements.parts.Notation.{Notation}
use Rattle.mach_signature.specs.declared.entitlements.parts.Notation.TheVariants.{Xml, Der}

-- what comes first among the values of a group
abbrev pub entitlement_front_by : Notation → Group → List ℕ → Result FrontView Fault
entitlement_front_by Xml g bytes = xml_front g bytes
entitlement_front_by Der g bytes = der_front g bytes

unfoldable pub entitlement_front : Group → SpanView → Result FrontView Fault
entitlement_front g s = entitlement_front_by s.notation g s.bytes

-- what follows a value: the place that is known before the value is read, or its end
abbrev pub rest_or : Option SpanView → SpanView → SpanView
rest_or None end = end
rest_or (Some rest) end = rest

-- a value, and its end if it is a group
abbrev pub entitlement_by : (Group → SpanView → Result (Entitled × SpanView) Fault) → Unread → Result (Entitlement × SpanView) Fault
entitlement_by next (plain_here p) = Ok (plain p, no_bytes)
entitlement_by next (group_here g s) = next g s >>= (λ r. Ok (group g r.0, r.1))

abbrev pub before_others : (List ℕ) → Entitlement → Entitled × SpanView → Result (Entitled × SpanView) Fault
before_others key value r = Ok (entry key value r.0, r.1)

abbrev pub entries_after : (Group → SpanView → Result (Entitled × SpanView) Fault) → Group → FrontView → Result (Entitled × SpanView) Fault
entries_after next g (group_ends rest) = Ok (nothing, rest)
entries_after next g (entry_begins key value rest) = entitlement_by next value >>= (λ v. next g (rest_or rest v.1) >>= before_others key v.0)

-- The values of a group up to its end, and what follows that. From one value to the next and into a group are a step each.
unfoldable pub entries_at : (steps : ℕ) → Group → SpanView → Result (Entitled × SpanView) Fault
entries_at zero g s = Err malformed
entries_at (suc steps) g s = entitlement_front g s >>= entries_after (entries_at steps) g

-- a value in so many steps
abbrev pub value_at : (steps : ℕ) → Unread → Result (Entitlement × SpanView) Fault
value_at steps value = entitlement_by (entries_at steps) value

-- what follows
abbrev pub end_in : {A : Type 0} → Result (A × SpanView) Fault → Result SpanView Fault
end_in r = r >>= (λ x. Ok x.1)

-- what was found is a value that is read so
abbrev pub IsEntryFound : (steps : ℕ) → Option Unread → Option Entitlement → Type 0
IsEntryFound steps None None = Unit {0}
IsEntryFound steps None (Some value) = ⊥
IsEntryFound steps (Some unread) None = ⊥
IsEntryFound steps (Some unread) (Some value) = (end : SpanView) × (value_at steps unread ≡ Ok (value, end))
