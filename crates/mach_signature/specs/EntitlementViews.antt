-- What contracts see of what is read of entitlements.
use Rattle.std.specs.Prelude.{ℕ, List, ◌++◌, drop}
use Rattle.std.specs.Borrow.{Bor}
use Rattle.std.specs.Char.{encode_utf8}
use Rattle.std.specs.Option.{option_map}
use Rattle.mach_signature.specs.EntitlementSpans.{SpanView, Unread, plain_here, group_here, FrontView, group_ends, entry_begins, spelled_text}
use Rattle.mach_signature.specs.EntitlementValues.{PlainEntitlement, boolean, letters, numeral, unlike}
use Rattle.mach_signature.specs.declared.entitlements.parts.Span.{Span}
use Rattle.mach_signature.specs.declared.entitlements.spelling.Spelled.{Spelled}
use Rattle.mach_signature.specs.declared.entitlements.parts.Plain.{Plain}
use Rattle.mach_signature.specs.declared.entitlements.parts.Plain.TheVariants as plains
use Rattle.mach_signature.specs.declared.entitlements.parts.Value.{Value}
use Rattle.mach_signature.specs.declared.entitlements.parts.Value.TheVariants as values
use Rattle.mach_signature.specs.declared.entitlements.parts.Entry.{Entry}
use Rattle.mach_signature.specs.declared.entitlements.parts.Front.{Front}
use Rattle.mach_signature.specs.declared.entitlements.parts.Front.TheVariants as fronts

abbrev pub seen_span : Span → SpanView
seen_span s = record { notation = s.notation; bytes = s.bytes.now }

-- what is left of a text: the bytes of a character after the first of them, and then the rest
abbrev pub spelled_left : Spelled → List ℕ
spelled_left s = drop s.taken (encode_utf8 s.character) ++ spelled_text (seen_span s.text)

abbrev pub plain_view : Plain → PlainEntitlement
plain_view (plains.Boolean b) = boolean b
plain_view (plains.Number k n) = numeral k n
plain_view (plains.Text s) = letters (spelled_text (seen_span s))
plain_view plains.Unlike = unlike

abbrev pub seen_value : Value → Unread
seen_value (values.Plain p) = plain_here (plain_view p)
seen_value (values.Group g s) = group_here g (seen_span s)

abbrev pub entitlement_entry_view : Entry → FrontView
entitlement_entry_view e = entry_begins (spelled_text (seen_span e.key)) (seen_value e.value) (option_map seen_span e.rest)

abbrev pub front_view : Front → FrontView
front_view (fronts.End rest) = group_ends (seen_span rest)
front_view (fronts.Entry e) = entitlement_entry_view e

-- bytes that were read, with what follows
abbrev pub cut_read : Bor (List ℕ) × Bor (List ℕ) → List ℕ × List ℕ
cut_read r = (r.0.now, r.1.now)
