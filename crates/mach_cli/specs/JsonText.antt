-- Strings of JSON (RFC 8259, 7).
use Rattle.std.specs.Prelude.{◌==◌, List, ℕ, ◌++◌, codes, length, Bool, Option, Some, None, if◌then◌else◌}
use Rattle.std.specs.Result.{result_ok}
use Rattle.mach_base.specs.Text.{text_at}
use Rattle.mach_cli.specs.Escapes.{written}
use Rattle.mach_cli.specs.declared.escaped.Style.TheVariants.{Json}

-- The inside of a string, between its quotation marks, for a text that is UTF-8. A quotation mark and a backslash have a
-- backslash before them. A character that a name hides (a control character, a direction control, a line end) is `\u` and its
-- number in four hexadecimal digits. Everything else is unchanged.
abbrev pub json_inner : List ℕ → List ℕ
json_inner text = written Json text

-- a text as a string
abbrev pub json_string : List ℕ → List ℕ
json_string text = codes "\"" ++ (json_inner text ++ codes "\"")

-- a text as a string; `null` if there is none
abbrev pub string_or_null : Option (List ℕ) → List ℕ
string_or_null None = codes "null"
string_or_null (Some text) = json_string text

-- a text that is not empty
abbrev pub if_not_empty : Option (List ℕ) → Option (List ℕ)
if_not_empty None = None
if_not_empty (Some text) = if length text == 0 then None else Some text

-- the name in a field of sixteen bytes, if it is text and not empty
abbrev pub name_in_field : List ℕ → Option (List ℕ)
name_in_field field = if_not_empty (result_ok (text_at field 0))

abbrev pub json_bool : Bool → List ℕ
json_bool b = if b then codes "true" else codes "false"
