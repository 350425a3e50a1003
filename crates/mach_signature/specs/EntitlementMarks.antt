-- What contracts see of the elements of entitlements in XML.
use Rattle.std.specs.Prelude.{ℕ, List, Option}
use Rattle.std.specs.Borrow.{Bor}
use Rattle.std.specs.Option.{option_map}
use Rattle.mach_signature.specs.EntitlementSpans.{SpanView, Unread, spelled_text}
use Rattle.mach_signature.specs.EntitlementViews.{plain_view, seen_span, seen_value}
use Rattle.mach_signature.specs.EntitlementXml.{MarkView, key_mark, plain_mark, opening_mark, empty_mark, closing_mark}
use Rattle.mach_signature.specs.declared.entitlements.parts.Span.{Span}
use Rattle.mach_signature.specs.declared.entitlements.parts.Value.{Value}
use Rattle.mach_signature.specs.declared.entitlements.xml.Mark.{Mark}
use Rattle.mach_signature.specs.declared.entitlements.xml.Mark.TheVariants as marks

abbrev pub mark_view : Mark → MarkView
mark_view (marks.Key key) = key_mark (spelled_text (seen_span key))
mark_view (marks.Plain p) = plain_mark (plain_view p)
mark_view (marks.Opening g) = opening_mark g
mark_view (marks.Empty g) = empty_mark g
mark_view (marks.Closing g) = closing_mark g

abbrev pub mark_read : Mark × Bor (List ℕ) → MarkView × List ℕ
mark_read r = (mark_view r.0, r.1.now)

abbrev pub element_text_read : Span × Bor (List ℕ) → List ℕ × List ℕ
element_text_read r = (spelled_text (seen_span r.0), r.1.now)

abbrev pub value_read : Value × Option Span → Unread × Option SpanView
value_read r = (seen_value r.0, option_map seen_span r.1)

-- the values of a dictionary, with what follows it if that is known
abbrev pub dictionary_read : Span × Option Span → SpanView × Option SpanView
dictionary_read r = (seen_span r.0, option_map seen_span r.1)
