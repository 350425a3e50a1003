-- Entitlements in XML: a property list (plist(5), `PropertyList-1.0.dtd`). A comment has no `--` in it, as XML 1.0 requires.
use Rattle.std.specs.Prelude.{ℕ, zero, suc, ◌==◌, ◌&&◌, ◌||◌, Bool, true, false, not, List, [], ◌∷◌, codes, length, drop, nat_lt, if◌then◌else◌}
use Rattle.std.specs.Prelude.{Option, Some, None, Result, Ok, Err}
use Rattle.std.specs.List.{after_first, before_first, list_any, position_or_len}
use Rattle.std.specs.Str.{bytes_eq}
use Rattle.memchr.specs.Find.{is_byte}
use Rattle.mach_base.specs.Answer.{◌>>=◌}
use Rattle.mach_base.specs.Fault.{Fault, malformed}
use Rattle.mach_signature.specs.EntitlementSpans.{SpanView, no_bytes, Unread, plain_here, group_here, FrontView, group_ends, entry_begins}
use Rattle.mach_signature.specs.EntitlementNumbers.{minus, natural, number_by_form, number_in}
use Rattle.mach_signature.specs.EntitlementTexts.{has_front, is_plain_text, is_xml_text, without_entities}
use Rattle.mach_signature.specs.EntitlementValues.{PlainEntitlement, boolean, letters, numeral, unlike}
use Rattle.mach_signature.specs.declared.entitlements.digits.Digits.TheVariants.{Decimal}
use Rattle.mach_signature.specs.declared.entitlements.parts.Group.{Group}
use Rattle.mach_signature.specs.declared.entitlements.parts.Group.TheVariants.{Array, Dictionary}
use Rattle.mach_signature.specs.declared.entitlements.parts.Notation.TheVariants.{Xml}
use Rattle.mach_signature.specs.declared.entitlements.parts.NumberKind.TheVariants.{Date}

abbrev pub xml_at : List ℕ → SpanView
xml_at bytes = record { notation = Xml; bytes = bytes }

-- ---- what lies between tags

abbrev pub is_xml_space : ℕ → Bool
is_xml_space b = b == 32 || (b == 9 || (b == 10 || b == 13))

abbrev pub after_blanks : List ℕ → List ℕ
after_blanks [] = []
after_blanks (x ∷ xs) = if is_xml_space x then after_blanks xs else x ∷ xs

-- the end of a comment, after the first `--` in it
abbrev pub comment_end : List ℕ → Result (List ℕ) Fault
comment_end bytes = if has_front bytes (codes ">") then Ok (drop 1 bytes) else Err malformed

-- what follows a comment, after its `<!--`
abbrev pub after_comment : List ℕ → Result (List ℕ) Fault
after_comment [] = Err malformed
after_comment (x ∷ xs) = if x == 45 && has_front xs (codes "-") then comment_end (drop 1 xs) else after_comment xs

abbrev pub gap_by : (List ℕ → Result (List ℕ) Fault) → List ℕ → Result (List ℕ) Fault
gap_by next bytes = if has_front bytes (codes "<!--") then after_comment (drop 4 bytes) >>= next else Ok bytes

-- what follows white space and comments, fewer than so many
unfoldable pub after_gap : ℕ → List ℕ → Result (List ℕ) Fault
after_gap zero bytes = Err malformed
after_gap (suc n) bytes = gap_by (after_gap n) (after_blanks bytes)

-- ---- tags

-- what is before and after the first byte of a kind
unfoldable pub cut_at : ℕ → List ℕ → Result (List ℕ × List ℕ) Fault
cut_at byte bytes =
    if nat_lt (position_or_len (is_byte byte) bytes) (length bytes) then Ok (before_first (is_byte byte) bytes, after_first (is_byte byte) bytes)
    else Err malformed

-- what a tag has between `<` and the first `>`, and what follows
unfoldable pub tag_at : List ℕ → Result (List ℕ × List ℕ) Fault
tag_at bytes = if has_front bytes (codes "<") then cut_at 62 (drop 1 bytes) else Err malformed

abbrev pub closed_by : (closing : List ℕ) → List ℕ × List ℕ → Result (List ℕ × List ℕ) Fault
closed_by closing c = if has_front c.1 closing then Ok (c.0, drop (length closing) c.1) else Err malformed

-- what an element has up to its closing tag, and what follows
unfoldable pub content_at : (closing : List ℕ) → List ℕ → Result (List ℕ × List ℕ) Fault
content_at closing bytes = cut_at 60 bytes >>= closed_by closing

abbrev pub if_plain_text : List ℕ × List ℕ → Result (List ℕ × List ℕ) Fault
if_plain_text c = if is_plain_text c.0 then Ok (without_entities 0 c.0, c.1) else Err malformed

-- the text of an element
unfoldable pub element_text_at : (closing : List ℕ) → List ℕ → Result (List ℕ × List ℕ) Fault
element_text_at closing bytes = content_at closing bytes >>= if_plain_text

-- the integer of an element: decimal digits, one or more, and before them a minus sign if it is negative
unfoldable pub decimal_in : List ℕ → Result PlainEntitlement Fault
decimal_in content =
    if has_front content (codes "-") then number_in Decimal (drop 1 content) >>= minus else number_in Decimal content >>= natural

-- the date of an element, up to seconds
abbrev pub date_in : List ℕ → Result PlainEntitlement Fault
date_in content = number_by_form (codes "0000-00-00T00:00:00Z") 0 content >>= (λ n. Ok (numeral Date n))

-- ---- elements

-- a key, a plain value, the start of a group, a whole group without values, or the end of one
pub data MarkView : Type 0 where
  key_mark : List ℕ → MarkView
  plain_mark : PlainEntitlement → MarkView
  opening_mark : Group → MarkView
  empty_mark : Group → MarkView
  closing_mark : Group → MarkView

-- a name, or the same with a space before its `/`
abbrev pub is_tag_named : (name word spaced : List ℕ) → Bool
is_tag_named name word spaced = bytes_eq name word || bytes_eq name spaced

-- the tags at the start and the end of a group
abbrev pub group_mark : List ℕ → Result MarkView Fault
group_mark name =
    if bytes_eq name (codes "array") then Ok (opening_mark Array)
    else (if bytes_eq name (codes "dict") then Ok (opening_mark Dictionary)
    else (if bytes_eq name (codes "/array") then Ok (closing_mark Array)
    else (if bytes_eq name (codes "/dict") then Ok (closing_mark Dictionary) else Err malformed)))

-- the tags without content
abbrev pub lone_mark : List ℕ → Result MarkView Fault
lone_mark name =
    if is_tag_named name (codes "true/") (codes "true /") then Ok (plain_mark (boolean true))
    else (if is_tag_named name (codes "false/") (codes "false /") then Ok (plain_mark (boolean false))
    else (if is_tag_named name (codes "string/") (codes "string /") then Ok (plain_mark (letters []))
    else (if is_tag_named name (codes "array/") (codes "array /") then Ok (empty_mark Array)
    else (if is_tag_named name (codes "dict/") (codes "dict /") then Ok (empty_mark Dictionary) else group_mark name))))

abbrev pub marked_by : (List ℕ → Result PlainEntitlement Fault) → List ℕ × List ℕ → Result (MarkView × List ℕ) Fault
marked_by read c = read c.0 >>= (λ p. Ok (plain_mark p, c.1))

-- the elements whose content is no text; the number that a real has is not looked at
unfoldable pub content_mark : (name rest : List ℕ) → Result (MarkView × List ℕ) Fault
content_mark name rest =
    if bytes_eq name (codes "integer") then content_at (codes "/integer>") rest >>= marked_by decimal_in
    else (if bytes_eq name (codes "date") then content_at (codes "/date>") rest >>= marked_by date_in
    else (if bytes_eq name (codes "real") then content_at (codes "/real>") rest >>= (λ c. Ok (plain_mark unlike, c.1))
    else lone_mark name >>= (λ m. Ok (m, rest))))

unfoldable pub mark_by : (name rest : List ℕ) → Result (MarkView × List ℕ) Fault
mark_by name rest =
    if bytes_eq name (codes "key") then element_text_at (codes "/key>") rest >>= (λ t. Ok (key_mark t.0, t.1))
    else (if bytes_eq name (codes "string") then element_text_at (codes "/string>") rest >>= (λ t. Ok (plain_mark (letters t.0), t.1))
    else content_mark name rest)

-- there are no more comments than this between two tags, and no more steps to a value
abbrev pub most_steps : ℕ
most_steps = 2000

-- the first element after white space and comments
unfoldable pub mark_at : List ℕ → Result (MarkView × List ℕ) Fault
mark_at bytes = do
  rest ← after_gap most_steps bytes
  tag ← tag_at rest
  mark_by tag.0 tag.1

-- ---- values

-- what begins with a mark, if it is a value; what follows a group without values is known, and else only its end shows that
abbrev pub marked_value : MarkView × List ℕ → Result (Unread × Option SpanView) Fault
marked_value (key_mark k, rest) = Err malformed
marked_value (plain_mark p, rest) = Ok (plain_here p, Some (xml_at rest))
marked_value (opening_mark g, rest) = Ok (group_here g (xml_at rest), None)
marked_value (empty_mark g, rest) = Ok (group_here g no_bytes, Some (xml_at rest))
marked_value (closing_mark g, rest) = Err malformed

abbrev pub under_key : List ℕ → Unread × Option SpanView → Result FrontView Fault
under_key key v = Ok (entry_begins key v.0 v.1)

-- what comes first in an array: its end, or a value
abbrev pub array_front : MarkView × List ℕ → Result FrontView Fault
array_front (closing_mark Array, rest) = Ok (group_ends (xml_at rest))
array_front (closing_mark Dictionary, rest) = Err malformed
array_front (key_mark k, rest) = Err malformed
array_front (plain_mark p, rest) = marked_value (plain_mark p, rest) >>= under_key []
array_front (opening_mark g, rest) = marked_value (opening_mark g, rest) >>= under_key []
array_front (empty_mark g, rest) = marked_value (empty_mark g, rest) >>= under_key []

-- what comes first in a dictionary: its end, or a key and its value
abbrev pub dictionary_front : MarkView × List ℕ → Result FrontView Fault
dictionary_front (closing_mark Dictionary, rest) = Ok (group_ends (xml_at rest))
dictionary_front (key_mark k, rest) = mark_at rest >>= (λ m. marked_value m >>= under_key k)
dictionary_front (closing_mark Array, rest) = Err malformed
dictionary_front (plain_mark p, rest) = Err malformed
dictionary_front (opening_mark g, rest) = Err malformed
dictionary_front (empty_mark g, rest) = Err malformed

abbrev pub marked_front : Group → MarkView × List ℕ → Result FrontView Fault
marked_front Array m = array_front m
marked_front Dictionary m = dictionary_front m

unfoldable pub xml_front : Group → List ℕ → Result FrontView Fault
xml_front g bytes = mark_at bytes >>= marked_front g

-- ---- the whole

-- the XML declaration, if there is one: in UTF-8
abbrev pub is_declaration : List ℕ → Bool
is_declaration name =
    bytes_eq name (codes "?xml version=\"1.0\" encoding=\"UTF-8\"?")
    || (bytes_eq name (codes "?xml version=\"1.0\" encoding=\"utf-8\"?") || bytes_eq name (codes "?xml version=\"1.0\"?"))

abbrev pub after_tag_if : (List ℕ → Bool) → List ℕ × List ℕ → Result (List ℕ) Fault
after_tag_if test tag = if test tag.0 then Ok tag.1 else Err malformed

unfoldable pub after_declaration : List ℕ → Result (List ℕ) Fault
after_declaration bytes = if has_front bytes (codes "<?") then tag_at bytes >>= after_tag_if is_declaration else Ok bytes

-- the document type, if there is one: without declarations in brackets
abbrev pub is_doctype : List ℕ → Bool
is_doctype name = has_front name (codes "!DOCTYPE plist") && not (list_any (λ b. b == 91) name)

unfoldable pub after_doctype : List ℕ → Result (List ℕ) Fault
after_doctype bytes = if has_front bytes (codes "<!") then tag_at bytes >>= after_tag_if is_doctype else Ok bytes

abbrev pub is_plist : List ℕ → Bool
is_plist name = bytes_eq name (codes "plist version=\"1.0\"") || bytes_eq name (codes "plist")

abbrev pub is_plist_end : List ℕ → Bool
is_plist_end name = bytes_eq name (codes "/plist")

-- what follows a tag after white space and comments
unfoldable pub after_named : (List ℕ → Bool) → List ℕ → Result (List ℕ) Fault
after_named test bytes = do
  rest ← after_gap most_steps bytes
  tag ← tag_at rest
  after_tag_if test tag

-- what follows the start of a property list
unfoldable pub after_prolog : List ℕ → Result (List ℕ) Fault
after_prolog bytes = do
  first ← after_declaration bytes
  second ← after_gap most_steps first
  third ← after_doctype second
  after_named is_plist third

-- a dictionary that is not read yet, with what follows it if that is known
abbrev pub if_dictionary : Unread × Option SpanView → Result (SpanView × Option SpanView) Fault
if_dictionary (plain_here p, rest) = Err malformed
if_dictionary (group_here Array s, rest) = Err malformed
if_dictionary (group_here Dictionary s, rest) = Ok (s, rest)

-- all bytes, if they are a text that XML allows
abbrev pub if_xml_text : List ℕ → Result (List ℕ) Fault
if_xml_text bytes = if is_xml_text bytes then Ok bytes else Err malformed

unfoldable pub xml_start : List ℕ → Result (SpanView × Option SpanView) Fault
xml_start bytes = do
  whole ← if_xml_text bytes
  rest ← after_prolog whole
  mark ← mark_at rest
  value ← marked_value mark
  if_dictionary value

abbrev pub if_empty : List ℕ → Result (List ℕ) Fault
if_empty bytes = if length bytes == 0 then Ok bytes else Err malformed

-- nothing but the end of the property list follows, with white space and comments
unfoldable pub xml_finish : List ℕ → Result (List ℕ) Fault
xml_finish bytes = do
  rest ← after_named is_plist_end bytes
  last ← after_gap most_steps rest
  if_empty last
