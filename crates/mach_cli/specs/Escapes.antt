-- Texts of a file, as they are printed. Each character that may end a line, or change what a terminal shows, is replaced by other bytes.
use Rattle.std.specs.Prelude.{◌≡◌, ◌==◌, ◌||◌, ◌&&◌, ◌+◌, ◌-◌, ◌*◌, ◌/◌, ◌%◌, ◌^◌, ◌<◌, ◌≤◌, ℕ, zero, suc, List, [], ◌∷◌, ◌++◌, codes, Bool, true, false}
use Rattle.std.specs.Prelude.{not, nat_lt, if◌then◌else◌, length, get_or, take, drop, flat_map, All}
use Rattle.std.specs.List.{list_all, list_any}
use Rattle.std.specs.Int.{is_in_range}
use Rattle.std.specs.Char.{digit_value}
use Rattle.std.specs.Fmt.{digits, padded_integral, format_spec}
use Rattle.std.specs.Str.Lossy.{after_first_chunk, utf8_invalid_len, utf8_valid_len}
use Rattle.mach_cli.specs.declared.escaped.Style.{Style}
use Rattle.mach_cli.specs.declared.escaped.Style.TheVariants.{Json, Name}

-- ---- characters that are escaped

-- The hidden characters from U+0080 on, by their first and last numbers: those of the Unicode Character Database that are controls
-- (general category Cc), ends of lines and paragraphs (Zl, Zp), bidirectional controls (Bidi_Control), or other format characters
-- (Cf, Default_Ignorable_Code_Point) that show nothing and that names in use don't need.
abbrev pub hidden_ranges : List (ℕ × ℕ)
hidden_ranges =
    (0x80, 0x9f) ∷ (0xad, 0xad) ∷ (0x61c, 0x61c) ∷ (0x180e, 0x180e) ∷ (0x200b, 0x200f) ∷ (0x2028, 0x202e) ∷ (0x2060, 0x206f) ∷ (0xfeff, 0xfeff)
    ∷ (0xfff9, 0xfffb)
    ∷ (0xe0001, 0xe0001)
    ∷ (0xe0020, 0xe007f)
    ∷ []

unfoldable pub is_hidden : ℕ → Bool
is_hidden char = list_any (λ range. is_in_range range.0 range.1 char) hidden_ranges

-- a byte of a text, and a space past its end
abbrev pub byte_in : List ℕ → ℕ → ℕ
byte_in text i = get_or text i 0x20

-- a byte that goes on with a character of UTF-8
abbrev pub is_tail : ℕ → Bool
is_tail b = is_in_range 0x80 0xbf b

-- the numbers of characters of two, three and four bytes (RFC 3629, section 3)
abbrev pub char_of_two : ℕ → ℕ → ℕ
char_of_two b c = b % 0x20 * 0x40 + c % 0x40

abbrev pub char_of_three : ℕ → ℕ → ℕ → ℕ
char_of_three b c d = b % 0x10 * 0x1000 + c % 0x40 * 0x40 + d % 0x40

abbrev pub char_of_four : ℕ → ℕ → ℕ → ℕ → ℕ
char_of_four b c d e = b % 8 * 0x4_0000 + c % 0x40 * 0x1000 + d % 0x40 * 0x40 + e % 0x40

-- These bytes are a hidden character. No hidden one begins with the byte 0xe0 or 0xf0.
abbrev pub hides_two : ℕ → ℕ → Bool
hides_two b c = (is_in_range 0xc2 0xdf b && is_tail c) && is_hidden (char_of_two b c)

abbrev pub hides_three : ℕ → ℕ → ℕ → Bool
hides_three b c d = (is_in_range 0xe1 0xef b && (is_tail c && is_tail d)) && is_hidden (char_of_three b c d)

abbrev pub hides_four : ℕ → ℕ → ℕ → ℕ → Bool
hides_four b c d e = (is_in_range 0xf1 0xf4 b && (is_tail c && (is_tail d && is_tail e))) && is_hidden (char_of_four b c d e)

-- How many of these bytes are a hidden character, else 0: a byte below 0x20 or 0x7f, or those of a character of the list above.
abbrev pub hidden_of : ℕ → ℕ → ℕ → ℕ → ℕ
hidden_of b c d e =
    if nat_lt b 0x80 then (if nat_lt b 0x20 || b == 0x7f then 1 else 0)
    else (if hides_two b c then 2 else (if hides_three b c d then 3 else (if hides_four b c d e then 4 else 0)))

-- how many bytes the first character of a text has, if it is hidden, else 0
unfoldable pub hidden_len : List ℕ → ℕ
hidden_len text = hidden_of (byte_in text 0) (byte_in text 1) (byte_in text 2) (byte_in text 3)

-- the number of that character: the bits that UTF-8 has in its bytes
abbrev pub hidden_char : List ℕ → ℕ
hidden_char text =
    if hidden_len text == 1 then byte_in text 0
    else (if hidden_len text == 2 then char_of_two (byte_in text 0) (byte_in text 1)
    else (if hidden_len text == 3 then char_of_three (byte_in text 0) (byte_in text 1) (byte_in text 2)
    else char_of_four (byte_in text 0) (byte_in text 1) (byte_in text 2) (byte_in text 3)))

-- ---- their escapes

-- a byte in two hexadecimal digits
abbrev pub byte_text : ℕ → List ℕ
byte_text n = padded_integral (format_spec 32 0 4 2 (2 ^ 64 - 1)) false [] (digits 16 false n)

-- the same after a backslash and an x
abbrev pub escape_text : ℕ → List ℕ
escape_text n = codes "\\x" ++ byte_text n

-- a number in four hexadecimal digits, after a backslash and a u
abbrev pub json_unit : ℕ → List ℕ
json_unit n = codes "\\u" ++ padded_integral (format_spec 32 0 4 4 (2 ^ 64 - 1)) false [] (digits 16 false n)

-- a character by its number, and by its two surrogates if the number has more digits (RFC 8259, section 7)
abbrev pub json_escape : ℕ → List ℕ
json_escape n = if nat_lt n 0x1_0000 then json_unit n else json_unit (0xd800 + (n - 0x1_0000) / 0x400) ++ json_unit (0xdc00 + (n - 0x1_0000) % 0x400)

-- a character that is escaped by a backslash before it: the backslash, and in JSON the quotation mark
abbrev pub is_quoted : Style → ℕ → Bool
is_quoted Name b = b == 0x5c
is_quoted Json b = b == 0x5c || b == 0x22

-- a byte that is written unchanged, whatever is beside it: visible ASCII without such a character
abbrev pub is_visible : Style → ℕ → Bool
is_visible style b = is_in_range 0x20 0x7e b && not (is_quoted style b)

-- how many of the first bytes are one character that is escaped; 0 if the first one isn't
unfoldable pub escape_len : Style → List ℕ → ℕ
escape_len style text = if is_quoted style (byte_in text 0) then 1 else hidden_len text

-- the escape of a hidden character at the start of a text: one escape for each of its bytes, in JSON its number
abbrev pub hidden_text : Style → List ℕ → List ℕ
hidden_text Name text = flat_map escape_text (take (hidden_len text) text)
hidden_text Json text = json_escape (hidden_char text)

-- the escape of the character at the start of a text
abbrev pub escape_of : Style → List ℕ → List ℕ
escape_of style text =
    if is_quoted style (byte_in text 0) then 0x5c ∷ byte_in text 0 ∷ [] else hidden_text style text

-- a text without its first n bytes, as it is written
abbrev pub written_past : Style → ℕ → List ℕ → List ℕ
written_past style n [] = []
written_past style zero (b ∷ rest) =
    if escape_len style (b ∷ rest) == 0 then b ∷ written_past style 0 rest
    else escape_of style (b ∷ rest) ++ written_past style (escape_len style (b ∷ rest) - 1) rest
written_past style (suc n) (b ∷ rest) = written_past style n rest

-- a text as it is written: escapes for the characters that have one, and everything else unchanged
unfoldable pub written : Style → List ℕ → List ℕ
written style text = written_past style 0 text

-- A name on one line. A backslash is `\\`, each byte of a hidden character is `\xNN`, and everything else is unchanged.
abbrev pub escaped_text : List ℕ → List ℕ
escaped_text name = written Name name

-- the same for bytes that may not be UTF-8, cut at k places at most: each byte that begins no character is `\xNN`
abbrev pub escaped_bytes_within : ℕ → List ℕ → List ℕ
escaped_bytes_within zero bytes = escaped_text bytes
escaped_bytes_within (suc k) bytes = let n = utf8_valid_len bytes in
    if n == length bytes then escaped_text bytes
    else escaped_text (take n bytes)
    ++ (flat_map escape_text (take (utf8_invalid_len (drop n bytes)) (drop n bytes)) ++ escaped_bytes_within k (after_first_chunk bytes))

unfoldable pub escaped_bytes : List ℕ → List ℕ
escaped_bytes bytes = escaped_bytes_within (length bytes) bytes

-- ---- a reader of names

-- what was read last
pub data Escape : Type 0 where
  -- no escape has begun
  None : Escape
  -- a backslash
  Slash : Escape
  -- a backslash and an x
  Hex : Escape
  -- a backslash, an x and a digit of this value
  Digit : ℕ → Escape

-- the bytes that are read after that
abbrev pub unescaped_after : Escape → List ℕ → List ℕ
unescaped_after e [] = []
unescaped_after None (b ∷ rest) = if b == 0x5c then unescaped_after Slash rest else b ∷ unescaped_after None rest
unescaped_after Slash (b ∷ rest) = if b == 0x78 then unescaped_after Hex rest else b ∷ unescaped_after None rest
unescaped_after Hex (b ∷ rest) = unescaped_after (Digit (digit_value b)) rest
unescaped_after (Digit d) (b ∷ rest) = (16 * d + digit_value b) ∷ unescaped_after None rest

-- the name that is printed as a text
abbrev pub unescaped : List ℕ → List ℕ
unescaped text = unescaped_after None text

-- ---- lines

-- no byte is a line feed
abbrev pub has_no_feed : List ℕ → Bool
has_no_feed text = list_all (λ b. not (b == 0x0a)) text

-- one line: a line feed ends it, and no other is in it
pub record IsOneLine (text : List ℕ) : Type 0 where
  pub line : List ℕ
  pub whole : text ≡ line ++ codes "\n"
  pub one : has_no_feed line ≡ true

-- a byte that a name has as it is printed: no control character
abbrev pub IsPrinted : ℕ → Type 0
IsPrinted b = (0x20 ≤ b) × (b ≡ 0x7f → ⊥)

-- numbers that are bytes
abbrev pub AreBytes : List ℕ → Type 0
AreBytes bytes = All (λ b. b < 256) bytes
