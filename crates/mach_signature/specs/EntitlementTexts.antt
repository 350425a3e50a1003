-- The texts of entitlements, as they are written.
use Rattle.std.specs.Prelude.{ℕ, suc, zero, ◌+◌, ◌==◌, ◌&&◌, ◌||◌, Bool, true, not, List, [], ◌∷◌, ◌++◌, codes, drop, length, nat_eq, nat_lt}
use Rattle.std.specs.Prelude.{if◌then◌else◌, Option, Some, None, Result, Ok, Err}
use Rattle.std.specs.Char.{encode_utf8}
use Rattle.std.specs.List.{before_first, list_all, position_or_len, starts_with}
use Rattle.std.specs.Option.{is_some}
use Rattle.std.specs.Str.{chars, is_utf8}
use Rattle.memchr.specs.Find.{is_byte}
use Rattle.mach_base.specs.Fault.{Fault, malformed}
use Rattle.mach_signature.specs.EntitlementNumbers.{is_between, number_in}
use Rattle.mach_signature.specs.declared.entitlements.digits.Digits.TheVariants.{Decimal, Hexadecimal}

-- the bytes begin with a text
abbrev pub has_front : List ℕ → List ℕ → Bool
has_front bytes front = starts_with nat_eq bytes front

-- ---- characters

-- a character that XML allows (XML 1.0, section 2.2, Char)
abbrev pub is_xml_char : ℕ → Bool
is_xml_char c =
    c == 9 || (c == 10 || (c == 13 || (is_between 0x20 0xd7ff c || (is_between 0xe000 0xfffd c || is_between 0x10000 0x10ffff c))))

-- a text in UTF-8 of such characters
unfoldable pub is_xml_text : List ℕ → Bool
is_xml_text bytes = is_utf8 bytes && list_all is_xml_char (chars bytes)

-- ---- texts in XML

-- the number of a reference, by what is between its `&` and its `;`
abbrev pub reference_number : List ℕ → Result ℕ Fault
reference_number name =
    if has_front name (codes "#x") then number_in Hexadecimal (drop 2 name)
    else (if has_front name (codes "#") then number_in Decimal (drop 1 name) else Err malformed)

abbrev pub xml_char_at : (len : ℕ) → Result ℕ Fault → Option (ℕ × ℕ)
xml_char_at len (Ok c) = if is_xml_char c then Some (c, len) else None
xml_char_at len (Err f) = None

-- a reference after its `&`, by the number of a character that XML allows: the character, and how many bytes there are with the `;`
unfoldable pub reference_at : List ℕ → Option (ℕ × ℕ)
reference_at bytes =
    if nat_lt (position_or_len (is_byte 59) bytes) (length bytes)
    then xml_char_at (position_or_len (is_byte 59) bytes + 1) (reference_number (before_first (is_byte 59) bytes)) else None

-- an entity or a reference after its `&`: the character that it is, and how many bytes its name has with the `;`
abbrev pub entity_at : List ℕ → Option (ℕ × ℕ)
entity_at bytes =
    if has_front bytes (codes "lt;") then Some (60, 3) else (if has_front bytes (codes "gt;") then Some (62, 3)
    else (if has_front bytes (codes "amp;") then Some (38, 4) else (if has_front bytes (codes "quot;") then Some (34, 5)
    else (if has_front bytes (codes "apos;") then Some (39, 5) else reference_at bytes))))

-- what a `&` and the bytes after it spell: a character in UTF-8 and the rest
abbrev pub unit_by : (ℕ → List ℕ) → Option (ℕ × ℕ) → List ℕ
unit_by rest None = 38 ∷ rest 0
unit_by rest (Some found) = encode_utf8 found.0 ++ rest found.1

-- a text in XML without its first `skip` bytes, with each entity and reference as its character
abbrev pub without_entities : (skip : ℕ) → List ℕ → List ℕ
without_entities skip [] = []
without_entities (suc skip) (x ∷ xs) = without_entities skip xs
without_entities zero (x ∷ xs) = if x == 38 then unit_by (λ skip. without_entities skip xs) (entity_at xs) else x ∷ without_entities zero xs

-- a byte can be read: it is no carriage return, on which readers differ, and if it is a `&`, an entity or a reference follows
abbrev pub is_plain_byte : ℕ → List ℕ → Bool
is_plain_byte x xs = if x == 38 then is_some (entity_at xs) else not (x == 13)

abbrev pub is_plain_text : List ℕ → Bool
is_plain_text [] = true
is_plain_text (x ∷ xs) = is_plain_byte x xs && is_plain_text xs
