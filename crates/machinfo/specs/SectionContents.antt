-- The strings of the sections of an image (`mach-o/loader.h`, S_CSTRING_LITERALS) as rows.
use Rattle.std.specs.Prelude.{◌==◌, ◌++◌, ◌∷◌, ℕ, ◌+◌, ◌%◌, ◌^◌, bit_and, Bool, List, [], Option, Some, None, Result, Ok, Err, codes, length, map, nat_lt}
use Rattle.std.specs.Prelude.{if◌then◌else◌}
use Rattle.std.specs.Str.{is_utf8}
use Rattle.mach_base.specs.declared.error.Error.{Error}
use Rattle.mach_base.specs.Fault.{Fault, malformed}
use Rattle.mach_base.specs.Items.{read_as}
use Rattle.mach_records.specs.declared.segments.Section64.{Section64}
use Rattle.mach_parts.specs.NumberedLeft.{readable_left}
use Rattle.mach_parts.specs.SectionRecord.{bytes_of_section, readable_sections}
use Rattle.mach_parts.specs.declared.segment.numbered.NumberedSection.{NumberedSection}
use Rattle.goblin_mach.specs.ImageFacts.{Facts}
use Rattle.goblin_mach.specs.Strings.{strings_from, strings_left}
use Rattle.mach_cli.specs.Fields.{FieldView, alone_field, field_of, held_bytes, hex, line_field, optional_text, text, wide_field}
use Rattle.mach_cli.specs.JsonText.{name_in_field}
use Rattle.machinfo.specs.PartFields.{text_or_dash}
use Rattle.machinfo.specs.declared.strings.OpenStrings.{OpenStrings}
use Rattle.machinfo.specs.declared.strings.StringRow.{StringRow}
use Rattle.machinfo.specs.declared.strings.StringRows.{StringRows}

-- ---- strings

-- a string: its section, its place there, and its bytes
abbrev pub StringRowView : Type 0
StringRowView = NumberedSection × ℕ × List ℕ

-- a section has strings
abbrev pub has_strings : (flags : ℕ) → Bool
has_strings flags = bit_and flags 0xff == 0x2

-- the bytes of a section, which must not begin before the end of an earlier one with strings: so all of these have at most the file's bytes
abbrev pub bytes_after : (end : ℕ) → List ℕ → Section64 → Result (List ℕ) Fault
bytes_after end bytes s = if nat_lt s.offset end then Err malformed else bytes_of_section bytes s

abbrev pub rows_of_strings : NumberedSection → List (ℕ × List ℕ) → List (Result StringRowView Fault)
rows_of_strings n strings = map (λ s. Ok (n, s.0, s.1)) strings

-- the strings of a section with these bytes, and those after it, by its end; or the fault in its place
abbrev pub strings_then : NumberedSection → (end : ℕ) → Result (List ℕ) Fault → (ℕ → List (Result StringRowView Fault)) → List (Result StringRowView Fault)
strings_then n end (Ok held) others = rows_of_strings n (strings_from 0 held) ++ others (n.section.offset + length held)
strings_then n end (Err f) others = Err f ∷ others end

-- those of some sections, if the earlier ones end there
abbrev pub strings_after : List ℕ → (end : ℕ) → List NumberedSection → List (Result StringRowView Fault)
strings_after bytes end [] = []
strings_after bytes end (n ∷ ns) =
    if has_strings n.section.flags then strings_then n end (bytes_after end bytes n.section) (λ e. strings_after bytes e ns)
    else strings_after bytes end ns

-- those of an image
abbrev pub image_strings : Facts → List (Result StringRowView Fault)
image_strings f = strings_after f.bytes 0 (readable_sections f.segments)

-- ---- fields

-- an address, and the segment and the section that hold it by their names
abbrev pub located_fields : (address : ℕ) → NumberedSection → List FieldView
located_fields address n =
    let section = name_in_field n.section.sectname in
    wide_field 11 (field_of (codes "address") (hex address) 1)
    ∷ alone_field (codes "section") (optional_text section)
    ∷ wide_field 16 (line_field (text (text_or_dash section)) 2)
    ∷ alone_field (codes "segment") (optional_text (name_in_field n.section.segname))
    ∷ []

abbrev pub text_if_utf8 : List ℕ → Option (List ℕ)
text_if_utf8 bytes = if is_utf8 bytes then Some bytes else None

-- the bytes of a string, and in an object the text if they are UTF-8
abbrev pub string_fields : StringRowView → List FieldView
string_fields s =
    located_fields ((s.0.section.addr + s.1) % 2 ^ 64) s.0
    ++ (field_of (codes "hex") (held_bytes s.2) 3 ∷ alone_field (codes "text") (optional_text (text_if_utf8 s.2)) ∷ [])

-- ---- what the code's values mean

abbrev pub string_row_view : StringRow → StringRowView
string_row_view r = (r.section, r.string.place, r.string.bytes.now)

abbrev pub string_row_read : Result StringRow Error → Result StringRowView Fault
string_row_read item = read_as string_row_view item

abbrev pub open_strings_left : Option OpenStrings → List (Result StringRowView Fault)
open_strings_left None = []
open_strings_left (Some o) = rows_of_strings o.section (strings_left o.strings)

abbrev pub string_rows_left : StringRows → List (Result StringRowView Fault)
string_rows_left it = open_strings_left it.current ++ strings_after it.bytes.now it.end (readable_left it.sections)
