-- What is shown of an item of a list, field by field: as a line of text, or as an object of JSON (RFC 8259, 4).
use Rattle.std.specs.Prelude.{◌≡◌, ◌≤◌, ◌<◌, ◌==◌, ◌&&◌, ◌++◌, ◌∷◌, ◌-◌, ◌^◌, ℕ, ℤ, List, [], codes, length, Bool, true, false, not, Option, Some, None}
use Rattle.std.specs.Prelude.{get_or, if◌then◌else◌}
use Rattle.std.specs.Fmt.{decimal, digits, format_spec, padded_integral, signed_decimal, styled_decimal, styled_text}
use Rattle.std.specs.List.{flat_map}
use Rattle.std.specs.Str.{chars}
use Rattle.mach_dyld.specs.Exports.{text_in}
use Rattle.mach_parts.specs.PointerSigning.{Auth, auth_option_view}
use Rattle.mach_cli.specs.Escapes.{escaped_bytes, escaped_text}
use Rattle.mach_cli.specs.JsonText.{json_bool, json_string}
use Rattle.mach_cli.specs.Listings.{hex_text}
use Rattle.mach_cli.specs.SignatureNames.{bytes_text}
use Rattle.mach_records.specs.Values.{source_version_text, uuid_text, version_text}
use Rattle.mach_cli.specs.declared.fields.Field.{Field}
use Rattle.mach_cli.specs.declared.fields.Value.{Value}
use Rattle.mach_cli.specs.declared.fields.Value.TheVariants as values

-- the value of a field: a number, in a line perhaps in hexadecimal or by its name; a text, which may lack; a version or a UUID; bytes;
-- whether something is so, with the words for both; or the flags of a pointer
pub data ValueView : Type 0 where
  number : ℕ → ValueView
  signed : ℤ → ValueView
  hex : ℕ → ValueView
  named : (number : ℕ) → (name : List ℕ) → ValueView
  text : List ℕ → ValueView
  optional_text : Option (List ℕ) → ValueView
  version : ℕ → ValueView
  source_version : ℕ → ValueView
  uuid : List ℕ → ValueView
  held_bytes : List ℕ → ValueView
  held_digits : List ℕ → ValueView
  flag : (is_so : Bool) → (word otherwise : List ℕ) → ValueView
  flags : (is_weak is_lazy : Bool) → Option Auth → ValueView

-- a field: its name in an object, empty if only a line has it; its value; its column in a line, from 1 to 9; and how many
-- characters it has in a line at least. A line has a field of column 0 only after its name, and no line has one of column 10.
pub record FieldView : Type 0 where
  pub name : List ℕ
  pub value : ValueView
  pub column : ℕ
  pub width : ℕ

abbrev pub value_view : Value → ValueView
value_view (values.Number n) = number n
value_view (values.Signed z) = signed z
value_view (values.Hex n) = hex n
value_view (values.Named n t) = named n t.now
value_view (values.Text t) = text t.now
value_view (values.OptionalText t) = optional_text (text_in t)
value_view (values.Version n) = version n
value_view (values.SourceVersion n) = source_version n
value_view (values.Uuid bytes) = uuid bytes
value_view (values.Bytes bytes) = held_bytes bytes.now
value_view (values.Digits bytes) = held_digits bytes.now
value_view (values.Flag is_so word otherwise) = flag is_so word.now otherwise.now
value_view (values.Flags is_weak is_lazy auth) = flags is_weak is_lazy (auth_option_view auth)

-- a field that both a line and an object have; that only an object has, or a line after its name; that only an object has; or
-- only a line
abbrev pub field_of : (name : List ℕ) → ValueView → (column : ℕ) → FieldView
field_of name value column = record { name = name; value = value; column = column; width = 0 }

abbrev pub object_field : (name : List ℕ) → ValueView → FieldView
object_field name value = field_of name value 0

abbrev pub alone_field : (name : List ℕ) → ValueView → FieldView
alone_field name value = field_of name value 10

abbrev pub line_field : ValueView → (column : ℕ) → FieldView
line_field value column = field_of [] value column

-- the field of a name and a value that has no column
abbrev pub named_value : List ℕ × ValueView → FieldView
named_value f = object_field f.0 f.1

-- the same field with at least so many characters in a line
abbrev pub wide_field : (width : ℕ) → FieldView → FieldView
wide_field width f = record { name = f.name; value = f.value; column = f.column; width = width }

-- a member that says whether something is so
abbrev pub whether : (name : List ℕ) → Bool → FieldView
whether name is_so = object_field name (flag is_so [] [])

abbrev pub field_view : Field → FieldView
field_view f = record { name = f.name.now; value = value_view f.value; column = f.column; width = f.width }

abbrev pub column_of : Field → ℕ
column_of f = f.column

-- Of fields with these columns, each that has a column of a line is at its start or after it, and before its end.
pub record AreSpans (columns starts ends : List ℕ) : Type 0 where
  pub lies : (column index : ℕ) → column < 10 → index < length columns → get_or columns index 0 ≡ column
      → (get_or starts column 0 ≤ index) × (index < get_or ends column 0)

-- ---- values in a line

abbrev pub word_if : Bool → (word otherwise : List ℕ) → List ℕ
word_if is_so word otherwise = if is_so then word else otherwise

-- the keys of arm64e
abbrev pub key_text : ℕ → List ℕ
key_text key =
    if key == 0 then codes "IA"
    else (if key == 1 then codes "IB"
    else (if key == 2 then codes "DA"
    else codes "DB"))

-- how a pointer is signed: the key, the diversity, and whether the pointer's address is mixed in too
abbrev pub auth_text : Auth → List ℕ
auth_text a = codes "auth:" ++ (key_text a.key ++ (codes ":" ++ (hex_text a.diversity ++ word_if a.is_address_diverse (codes ":address") [])))

-- the flags of a pointer, joined by commas, `-` if there are none
abbrev pub flags_text : (is_weak is_lazy : Bool) → Option Auth → List ℕ
flags_text false false None = codes "-"
flags_text true false None = codes "weak"
flags_text false true None = codes "lazy"
flags_text true true None = codes "weak,lazy"
flags_text false false (Some a) = auth_text a
flags_text true false (Some a) = codes "weak," ++ auth_text a
flags_text false true (Some a) = codes "lazy," ++ auth_text a
flags_text true true (Some a) = codes "weak,lazy," ++ auth_text a

abbrev pub value_in_line : ValueView → List ℕ
value_in_line (number n) = decimal n
value_in_line (signed z) = signed_decimal z
value_in_line (hex n) = hex_text n
value_in_line (named n name) = if length name == 0 then decimal n else escaped_text name
value_in_line (text t) = escaped_text t
value_in_line (optional_text None) = codes "-"
value_in_line (optional_text (Some t)) = escaped_text t
value_in_line (version n) = version_text n
value_in_line (source_version n) = source_version_text n
value_in_line (uuid u) = uuid_text u
value_in_line (held_bytes bytes) = escaped_bytes bytes
value_in_line (held_digits bytes) = bytes_text bytes
value_in_line (flag is_so word otherwise) = escaped_text (word_if is_so word otherwise)
value_in_line (flags is_weak is_lazy auth) = flags_text is_weak is_lazy auth

-- so many spaces
abbrev pub spaces : ℕ → List ℕ
spaces n = styled_text (format_spec 32 0 0 n (2 ^ 64 - 1)) []

-- A value in at least so many characters: a number at their right end, a text, the digits of bytes or a number in hexadecimal at their
-- left end. (An escape counts as the one character that it stands for.) Other values have no padding.
abbrev pub value_in_width : (width : ℕ) → ValueView → List ℕ
value_in_width width (number n) = styled_decimal (format_spec 32 3 0 width (2 ^ 64 - 1)) n
value_in_width width (hex n) = codes "0x" ++ padded_integral (format_spec 32 1 0 (width - 2) (2 ^ 64 - 1)) false [] (digits 16 false n)
value_in_width width (text t) = escaped_text t ++ spaces (width - length (chars t))
value_in_width width (held_digits bytes) = bytes_text bytes ++ spaces ((width - length bytes) - length bytes)
value_in_width width other = value_in_line other

-- ---- a line

-- a field if it is of this column, after a space unless that is the first
abbrev pub column_field : (column : ℕ) → FieldView → List ℕ
column_field column f = if f.column == column then (if column == 1 then [] else codes " ") ++ value_in_width f.width f.value else []

abbrev pub column_text : List FieldView → (column : ℕ) → List ℕ
column_text fields column = flat_map (column_field column) fields

-- the fields in the order of their columns, a space between two
abbrev pub fields_line : List FieldView → List ℕ
fields_line fields = flat_map (column_text fields) (1 ∷ 2 ∷ 3 ∷ 4 ∷ 5 ∷ 6 ∷ 7 ∷ 8 ∷ 9 ∷ [])

-- ---- a line of names and values

-- A field that has a name and no column: its name and its value, after two spaces.
abbrev pub pair_field : FieldView → List ℕ
pair_field f = if f.column == 0 && not (length f.name == 0) then codes "  " ++ (escaped_text f.name ++ (codes " " ++ value_in_line f.value)) else []

-- the fields in the order of their columns, and then each other field after its name
abbrev pub fields_pairs : List FieldView → List ℕ
fields_pairs fields = fields_line fields ++ flat_map pair_field fields

-- ---- an object

abbrev pub value_in_object : ValueView → List ℕ
value_in_object (number n) = decimal n
value_in_object (signed z) = signed_decimal z
value_in_object (hex n) = decimal n
value_in_object (named n name) = decimal n
value_in_object (text t) = json_string t
value_in_object (optional_text None) = codes "null"
value_in_object (optional_text (Some t)) = json_string t
value_in_object (version n) = codes "\"" ++ (version_text n ++ codes "\"")
value_in_object (source_version n) = codes "\"" ++ (source_version_text n ++ codes "\"")
value_in_object (uuid u) = codes "\"" ++ (uuid_text u ++ codes "\"")
value_in_object (held_bytes bytes) = codes "\"" ++ (bytes_text bytes ++ codes "\"")
value_in_object (held_digits bytes) = codes "\"" ++ (bytes_text bytes ++ codes "\"")
value_in_object (flag is_so word otherwise) = json_bool is_so
value_in_object (flags is_weak is_lazy auth) = codes "null"

abbrev pub field_member : FieldView → List ℕ
field_member f = codes "\"" ++ (f.name ++ (codes "\":" ++ value_in_object f.value))

-- a further member, if the field has a name
abbrev pub comma_member : FieldView → List ℕ
comma_member f = if length f.name == 0 then [] else codes "," ++ field_member f

-- an object up to its closing brace: a first field, and each further one that has a name
abbrev pub opened_object : FieldView → List FieldView → List ℕ
opened_object first others = codes "{" ++ (field_member first ++ flat_map comma_member others)

-- the fields that have names, in order
abbrev pub fields_object : List FieldView → List ℕ
fields_object [] = codes "{}"
fields_object (first ∷ others) = opened_object first others ++ codes "}"
