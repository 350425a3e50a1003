-- What is read of entitlements at once.
use Rattle.std.specs.Prelude.{ℕ, List, [], Option}
use Rattle.mach_signature.specs.EntitlementTexts.{without_entities}
use Rattle.mach_signature.specs.EntitlementValues.{PlainEntitlement}
use Rattle.mach_signature.specs.declared.entitlements.parts.Group.{Group}
use Rattle.mach_signature.specs.declared.entitlements.parts.Notation.{Notation}
use Rattle.mach_signature.specs.declared.entitlements.parts.Notation.TheVariants.{Xml, Der}

-- bytes in a notation
pub record SpanView : Type 0 where
  pub notation : Notation
  pub bytes : List ℕ

-- no bytes
abbrev pub no_bytes : SpanView
no_bytes = record { notation = Der; bytes = [] }

-- the text that they spell
abbrev pub spelled_by : Notation → List ℕ → List ℕ
spelled_by Xml bytes = without_entities 0 bytes
spelled_by Der bytes = bytes

abbrev pub spelled_text : SpanView → List ℕ
spelled_text s = spelled_by s.notation s.bytes

-- a plain value, or a group whose values are still to be read
pub data Unread : Type 0 where
  plain_here : PlainEntitlement → Unread
  group_here : Group → SpanView → Unread

-- what comes first among the values of a group: its end with what follows, or a value under its key, with what follows it unless only
-- the value's end shows that
pub data FrontView : Type 0 where
  group_ends : SpanView → FrontView
  entry_begins : (key : List ℕ) → Unread → Option SpanView → FrontView
