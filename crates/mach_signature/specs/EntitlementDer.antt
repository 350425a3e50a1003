-- Entitlements in DER (X.690, and libCoreEntitlements of Apple's operating systems).
use Rattle.std.specs.Prelude.{ℕ, ◌+◌, ◌*◌, ◌==◌, ◌&&◌, ◌||◌, Bool, true, false, not, List, [], ◌∷◌, codes, length, take, drop, nat_le, nat_lt, if◌then◌else◌}
use Rattle.std.specs.Prelude.{Option, Some, Result, Ok, Err}
use Rattle.mach_base.specs.Answer.{◌>>=◌}
use Rattle.mach_base.specs.Fault.{Fault, malformed}
use Rattle.mach_signature.specs.EntitlementSpans.{SpanView, no_bytes, Unread, plain_here, group_here, FrontView, group_ends, entry_begins}
use Rattle.mach_signature.specs.EntitlementTexts.{has_front}
use Rattle.mach_signature.specs.EntitlementNumbers.{below_zero, natural, number_by_form, number_in}
use Rattle.mach_signature.specs.EntitlementValues.{PlainEntitlement, boolean, letters, numeral}
use Rattle.mach_signature.specs.declared.entitlements.digits.Digits.TheVariants.{Bytes, Turned}
use Rattle.mach_signature.specs.declared.entitlements.parts.Group.{Group}
use Rattle.mach_signature.specs.declared.entitlements.parts.Group.TheVariants.{Array, Dictionary}
use Rattle.mach_signature.specs.declared.entitlements.parts.Notation.TheVariants.{Der}
use Rattle.mach_signature.specs.declared.entitlements.parts.NumberKind.TheVariants.{Date}

abbrev pub der_at : List ℕ → SpanView
der_at bytes = record { notation = Der; bytes = bytes }

-- ---- items: a tag, a length and as many bytes

-- a length of 1 to 3 bytes after their number; it has no fewer
abbrev pub short_length : List ℕ → Result (ℕ × List ℕ) Fault
short_length [] = Err malformed
short_length (a ∷ rest) = if nat_le 128 a then Ok (a, rest) else Err malformed

abbrev pub middle_length : List ℕ → Result (ℕ × List ℕ) Fault
middle_length [] = Err malformed
middle_length (a ∷ []) = Err malformed
middle_length (a ∷ b ∷ rest) = if nat_lt 0 a then Ok (a * 256 + b, rest) else Err malformed

abbrev pub long_length : List ℕ → Result (ℕ × List ℕ) Fault
long_length [] = Err malformed
long_length (a ∷ []) = Err malformed
long_length (a ∷ b ∷ []) = Err malformed
long_length (a ∷ b ∷ c ∷ rest) = if nat_lt 0 a then Ok (a * 65536 + b * 256 + c, rest) else Err malformed

-- a length by its first byte: itself, or how many bytes follow
abbrev pub length_by : ℕ → List ℕ → Result (ℕ × List ℕ) Fault
length_by first rest =
    if nat_lt first 128 then Ok (first, rest)
    else (if first == 129 then short_length rest else (if first == 130 then middle_length rest else (if first == 131 then long_length rest else Err malformed)))

pub record DerItemView : Type 0 where
  pub tag : ℕ
  pub content : List ℕ
  pub rest : List ℕ

abbrev pub item_of : ℕ → ℕ × List ℕ → Result DerItemView Fault
item_of tag l =
    if nat_le l.0 (length l.1) then Ok (record { tag = tag; content = take l.0 l.1; rest = drop l.0 l.1 }) else Err malformed

unfoldable pub der_item_at : List ℕ → Result DerItemView Fault
der_item_at [] = Err malformed
der_item_at (tag ∷ []) = Err malformed
der_item_at (tag ∷ first ∷ rest) = length_by first rest >>= item_of tag

-- ---- values

abbrev pub boolean_in : List ℕ → Result PlainEntitlement Fault
boolean_in [] = Err malformed
boolean_in (a ∷ b ∷ rest) = Err malformed
boolean_in (a ∷ []) = if a == 0 then Ok (boolean false) else (if a == 255 then Ok (boolean true) else Err malformed)

-- a number in the fewest bytes
abbrev pub is_shortest : List ℕ → Bool
is_shortest [] = false
is_shortest (a ∷ []) = true
is_shortest (a ∷ b ∷ rest) = not (a == 0 && nat_lt b 128) && not (a == 255 && nat_le 128 b)

-- its first bit is its sign
abbrev pub has_sign_bit : List ℕ → Bool
has_sign_bit [] = false
has_sign_bit (a ∷ rest) = nat_le 128 a

-- the integer in two's complement
abbrev pub integer_in : List ℕ → Result PlainEntitlement Fault
integer_in content =
    if is_shortest content
    then (if has_sign_bit content then number_in Turned content >>= below_zero else number_in Bytes content >>= natural)
    else Err malformed

-- a date up to seconds, in universal time
abbrev pub generalized_time : List ℕ → Result PlainEntitlement Fault
generalized_time content = number_by_form (codes "00000000000000Z") 0 content >>= (λ n. Ok (numeral Date n))

abbrev pub as_plain : PlainEntitlement → Result Unread Fault
as_plain p = Ok (plain_here p)

-- a dictionary is a context-specific item 16; in the older form it is a set
abbrev pub is_dictionary_tag : ℕ → Bool
is_dictionary_tag tag = tag == 0xb0 || tag == 0x31

unfoldable pub item_value : DerItemView → Result Unread Fault
item_value item =
    if item.tag == 1 then boolean_in item.content >>= as_plain
    else (if item.tag == 2 then integer_in item.content >>= as_plain
    else (if item.tag == 12 then Ok (plain_here (letters item.content))
    else (if item.tag == 24 then generalized_time item.content >>= as_plain
    else (if item.tag == 0x30 then Ok (group_here Array (der_at item.content))
    else (if is_dictionary_tag item.tag then Ok (group_here Dictionary (der_at item.content)) else Err malformed)))))

-- an item that nothing follows
abbrev pub if_alone : DerItemView → Result DerItemView Fault
if_alone item = if length item.rest == 0 then Ok item else Err malformed

unfoldable pub lone_item : List ℕ → Result DerItemView Fault
lone_item bytes = der_item_at bytes >>= if_alone

abbrev pub if_tagged : ℕ → DerItemView → Result DerItemView Fault
if_tagged tag item = if item.tag == tag then Ok item else Err malformed

-- an item with a tag
unfoldable pub tagged_item : ℕ → List ℕ → Result DerItemView Fault
tagged_item tag bytes = der_item_at bytes >>= if_tagged tag

-- a value of an array
unfoldable pub element_at : List ℕ → Result FrontView Fault
element_at bytes = do
  item ← der_item_at bytes
  value ← item_value item
  Ok (entry_begins [] value (Some (der_at item.rest)))

-- a pair of a dictionary: a sequence of a text and a value
unfoldable pub pair_at : List ℕ → Result FrontView Fault
pair_at bytes = do
  pair ← tagged_item 0x30 bytes
  key ← tagged_item 12 pair.content
  item ← lone_item key.rest
  value ← item_value item
  Ok (entry_begins key.content value (Some (der_at pair.rest)))

-- what comes first in a group; it ends with its bytes
unfoldable pub der_front : Group → List ℕ → Result FrontView Fault
der_front Array bytes = if length bytes == 0 then Ok (group_ends no_bytes) else element_at bytes
der_front Dictionary bytes = if length bytes == 0 then Ok (group_ends no_bytes) else pair_at bytes

-- ---- the whole

-- the dictionary after the number of the version, which is 1
abbrev pub versioned : List ℕ → Result DerItemView Fault
versioned content = if has_front content (2 ∷ 1 ∷ 1 ∷ []) then lone_item (drop 3 content) >>= if_tagged 0xb0 else Err malformed

-- an application item 16 with a version and a dictionary; or in the older form the dictionary alone
unfoldable pub outer_dictionary : DerItemView → Result DerItemView Fault
outer_dictionary item =
    if item.tag == 0x70 then versioned item.content else if_tagged 0x31 item

unfoldable pub der_start : List ℕ → Result (SpanView × Option SpanView) Fault
der_start bytes = do
  outer ← lone_item bytes
  dictionary ← outer_dictionary outer
  Ok (der_at dictionary.content, Some no_bytes)
