-- What is shown of rebases, binds and fixups, field by field: the members of an object in their order, each with its column in a
-- line, and the parts that only a line has.
use Rattle.std.specs.Prelude.{ℕ, ◌-◌, ℤ, pos, List, [], ◌∷◌, ◌++◌, codes, length, map, true, false, ◌||◌, Option, None, Some, Result, Ok, if◌then◌else◌}
use Rattle.std.specs.Ordering.{int_eq}
use Rattle.std.specs.Fmt.{signed_decimal}
use Rattle.std.specs.Str.{chars}
use Rattle.mach_base.specs.Answer.{◌>>=◌}
use Rattle.mach_base.specs.Fault.{Fault}
use Rattle.mach_parts.specs.PointerSigning.{Auth}
use Rattle.mach_cli.specs.Fields.{FieldView, field_of, flags, hex, line_field, number, object_field, optional_text, signed, text, whether}
use Rattle.mach_cli.specs.Escapes.{escaped_text}
use Rattle.mach_cli.specs.Fields.{fields_line, value_in_width, wide_field}
use Rattle.mach_cli.specs.Listings.{hex_text, reported_by}
use Rattle.mach_cli.specs.Signing.{diverse_by, diversity_by, has_auth, key_by, rebase_type}
use Rattle.mach_dyld.specs.declared.rebases.RebaseKind.{RebaseKind}
use Rattle.mach_dyld.specs.declared.rebases.RebaseKind.TheVariants.{Pointer, TextAbsolute32, TextRelative32}
use Rattle.machfixups.specs.Rows.{PointerPlace, PointerBind, binds, binds_weakly, rebases, is_value, PointerRow, corrects, is_strong, row_view}
use Rattle.goblin_mach.specs.SymbolAtAddress.{SymbolBelow}
use Rattle.machfixups.specs.declared.row.Row.{Row}

-- the line above the rows of an image: what their first six columns hold
abbrev pub heading_line : List ℕ
heading_line = codes "ADDRESS     SEGMENT      SECTION          KIND   FROM                 TARGET\n"

-- the addend of a bind; no line has it if it is 0
abbrev pub addend_field : ℤ → FieldView
addend_field addend = field_of (codes "addend") (signed addend) (if int_eq addend (pos 0) then 0 else 7)

-- the flags of a bind, in a line, if there are some
abbrev pub bind_flags : PointerBind → FieldView
bind_flags b = line_field (flags b.is_weak b.is_lazy b.auth) (if b.is_weak || (b.is_lazy || has_auth b.auth) then 8 else 0)

-- from which image a bind takes its symbol: its short name; if there is none, only a line has the field, with the ordinal
abbrev pub from_field : Option (List ℕ) → (ordinal : ℤ) → FieldView
from_field (Some name) ordinal = wide_field 20 (field_of (codes "from") (text name) 5)
from_field None ordinal = line_field (signed ordinal) 5

-- what a rebase adjusts, in a line, unless it is a pointer
abbrev pub rebase_word : RebaseKind → FieldView
rebase_word Pointer = line_field (text []) 0
rebase_word TextAbsolute32 = line_field (text (codes "text-absolute")) 7
rebase_word TextRelative32 = line_field (text (codes "text-relative")) 7

-- how a pointer is signed, in a line, if it is
abbrev pub signed_flags : Option Auth → FieldView
signed_flags None = line_field (flags false false None) 0
signed_flags (Some a) = line_field (flags false false (Some a)) 8

-- a printed name, `-` if there is none
abbrev pub name_or_dash : Option (List ℕ) → List ℕ
name_or_dash None = codes "-"
name_or_dash (Some name) = name

-- the place of a row, in columns as wide as most addresses and names
abbrev pub address_field : PointerPlace → FieldView
address_field p = wide_field 11 (field_of (codes "address") (hex p.address) 1)

abbrev pub segment_field : PointerPlace → FieldView
segment_field p = wide_field 12 (field_of (codes "segment") (text (name_or_dash p.segment)) 2)

abbrev pub section_field : PointerPlace → FieldView
section_field p = wide_field 16 (field_of (codes "section") (text (name_or_dash p.section)) 3)

-- what a row is: a word that an object has too, or only a line
abbrev pub kind_field : (name word : List ℕ) → FieldView
kind_field name word = wide_field 6 (field_of name (text word) 4)

-- the names of the target's segment and section, in a line, in a column of 20 characters
abbrev pub target_segment : PointerPlace → FieldView
target_segment target = line_field (text (name_or_dash target.segment)) 5

abbrev pub target_section : PointerPlace → FieldView
target_section target = wide_field (19 - length (chars (name_or_dash target.segment))) (line_field (text (name_or_dash target.section)) 5)

-- a dash in a column of this width
abbrev pub dash_field : (column width : ℕ) → FieldView
dash_field column width = wide_field width (line_field (text (codes "-")) column)

-- the pointer of a chain as it is stored, if it is shown
abbrev pub raw_field : Option ℕ → FieldView
raw_field (Some raw) = field_of (codes "raw") (hex raw) 9
raw_field None = line_field (text []) 0

-- the same for an object alone
abbrev pub raw_member : Option ℕ → FieldView
raw_member (Some raw) = object_field (codes "raw") (hex raw)
raw_member None = line_field (text []) 0

-- how far a target is above its symbol, and the name of that; null if there is none
abbrev pub distance_field : Option SymbolBelow → FieldView
distance_field (Some symbol) = object_field (codes "target_distance") (number symbol.distance)
distance_field None = object_field (codes "target_distance") (optional_text None)

abbrev pub symbol_field : Option SymbolBelow → FieldView
symbol_field (Some symbol) = object_field (codes "target_symbol") (optional_text (Some symbol.name))
symbol_field None = object_field (codes "target_symbol") (optional_text None)

abbrev pub bind_fields : PointerPlace → PointerBind → (raw : Option ℕ) → List FieldView
bind_fields p b raw =
    addend_field b.addend
    ∷ address_field p
    ∷ object_field (codes "diversity") (number (diversity_by b.auth))
    ∷ from_field b.from b.ordinal
    ∷ whether (codes "is_address_diverse") (diverse_by b.auth)
    ∷ whether (codes "is_lazy") b.is_lazy
    ∷ whether (codes "is_signed") (has_auth b.auth)
    ∷ whether (codes "is_weak") b.is_weak
    ∷ object_field (codes "key") (number (key_by b.auth))
    ∷ kind_field (codes "kind") (codes "bind")
    ∷ object_field (codes "library") (signed b.ordinal)
    ∷ field_of (codes "name") (text b.name) 6
    ∷ raw_field raw
    ∷ section_field p
    ∷ segment_field p
    ∷ bind_flags b
    ∷ []

abbrev pub weak_fields : PointerPlace → PointerBind → List FieldView
weak_fields p b =
    addend_field b.addend
    ∷ address_field p
    ∷ whether (codes "is_strong") false
    ∷ whether (codes "is_weak") b.is_weak
    ∷ object_field (codes "kind") (text (codes "weak bind"))
    ∷ field_of (codes "name") (text b.name) 6
    ∷ section_field p
    ∷ segment_field p
    ∷ kind_field [] (codes "weak")
    ∷ dash_field 5 20
    ∷ bind_flags b
    ∷ []

-- all that an object has, and what a line has up to the target
abbrev pub rebase_fields : (place target : PointerPlace) → Option SymbolBelow → RebaseKind → Option Auth → (raw : Option ℕ) → List FieldView
rebase_fields p target symbol kind auth raw =
    address_field p
    ∷ object_field (codes "diversity") (number (diversity_by auth))
    ∷ whether (codes "is_address_diverse") (diverse_by auth)
    ∷ whether (codes "is_signed") (has_auth auth)
    ∷ object_field (codes "key") (number (key_by auth))
    ∷ kind_field (codes "kind") (codes "rebase")
    ∷ raw_member raw
    ∷ section_field p
    ∷ segment_field p
    ∷ field_of (codes "target") (hex target.address) 6
    ∷ distance_field symbol
    ∷ object_field (codes "target_section") (optional_text target.section)
    ∷ object_field (codes "target_segment") (optional_text target.segment)
    ∷ symbol_field symbol
    ∷ object_field (codes "type") (text (rebase_type kind))
    ∷ target_segment target
    ∷ target_section target
    ∷ []

-- the place of a row, as a line has it
abbrev pub row_place_text : PointerPlace → List ℕ
row_place_text p =
    value_in_width 11 (hex p.address)
    ++ (codes " " ++ (value_in_width 12 (text (name_or_dash p.segment)) ++ (codes " " ++ value_in_width 16 (text (name_or_dash p.section)))))

-- the target of a rebase, as a line has it
abbrev pub rebase_target_text : PointerPlace → List ℕ
rebase_target_text target =
    value_in_width 0 (text (name_or_dash target.segment))
    ++ (codes " " ++ (value_in_width (19 - length (chars (name_or_dash target.segment))) (text (name_or_dash target.section))
    ++ (codes " " ++ value_in_width 0 (hex target.address))))

-- the line of a rebase up to the target
abbrev pub rebase_text : (place target : PointerPlace) → List ℕ
rebase_text p target = row_place_text p ++ (codes " rebase " ++ rebase_target_text target)

-- from which image a bind takes its symbol, as a line has it
abbrev pub from_text : Option (List ℕ) → (ordinal : ℤ) → List ℕ
from_text (Some name) ordinal = value_in_width 20 (text name)
from_text None ordinal = signed_decimal ordinal

-- what a line has after the name of a bind
abbrev pub bind_ending : PointerBind → (raw : Option ℕ) → List FieldView
bind_ending b raw = addend_field b.addend ∷ bind_flags b ∷ raw_field raw ∷ []

-- the name of a bind, with the image before it, and what a line has after it
abbrev pub bind_name_text : PointerBind → (raw : Option ℕ) → List ℕ
bind_name_text b raw = from_text b.from b.ordinal ++ (codes " " ++ (value_in_width 0 (text b.name) ++ fields_line (bind_ending b raw)))

-- the line of a bind
abbrev pub bind_text : PointerPlace → PointerBind → (raw : Option ℕ) → List ℕ
bind_text p b raw = row_place_text p ++ (codes " bind   " ++ bind_name_text b raw)

-- what a line has after the symbol at the target
abbrev pub ending_fields : RebaseKind → Option Auth → (raw : Option ℕ) → List FieldView
ending_fields kind auth raw = rebase_word kind ∷ signed_flags auth ∷ raw_field raw ∷ []

abbrev pub value_fields : PointerPlace → (value : ℕ) → (raw : Option ℕ) → List FieldView
value_fields p value raw =
    address_field p
    ∷ object_field (codes "kind") (text (codes "number"))
    ∷ raw_field raw
    ∷ section_field p
    ∷ segment_field p
    ∷ field_of (codes "target") (hex value) 6
    ∷ kind_field [] (codes "value")
    ∷ dash_field 5 20
    ∷ []

-- a strong definition has no place
abbrev pub strong_fields : List ℕ → List FieldView
strong_fields name =
    whether (codes "is_strong") true
    ∷ object_field (codes "kind") (text (codes "weak bind"))
    ∷ field_of (codes "name") (text name) 6
    ∷ dash_field 1 11
    ∷ dash_field 2 12
    ∷ dash_field 3 16
    ∷ kind_field [] (codes "strong")
    ∷ dash_field 5 20
    ∷ []

-- the fields of a row
abbrev pub pointer_fields : PointerRow → List FieldView
pointer_fields (corrects p (binds b) raw) = bind_fields p b raw
pointer_fields (corrects p (binds_weakly b) raw) = weak_fields p b
pointer_fields (corrects p (rebases target symbol kind auth) raw) = rebase_fields p target symbol kind auth raw
pointer_fields (corrects p (is_value value) raw) = value_fields p value raw
pointer_fields (is_strong name) = strong_fields name

-- those of a row of the code's
abbrev pub pointer_row_fields : Row → List FieldView
pointer_row_fields row = pointer_fields (row_view row)

-- the symbol at a target, after a space, and how far the target is above it
abbrev pub symbol_text : Option SymbolBelow → List ℕ
symbol_text (Some symbol) = codes " " ++ (escaped_text symbol.name ++ (codes "+" ++ hex_text symbol.distance))
symbol_text None = []

-- what a line has after the fields of a row: of a rebase the symbol at the target, and the fields after it
abbrev pub pointer_ending : PointerRow → List ℕ
pointer_ending (corrects p (binds b) raw) = []
pointer_ending (corrects p (binds_weakly b) raw) = []
pointer_ending (corrects p (rebases target symbol kind auth) raw) = symbol_text symbol ++ fields_line (ending_fields kind auth raw)
pointer_ending (corrects p (is_value value) raw) = []
pointer_ending (is_strong name) = []

-- the line of a row, without its end
abbrev pub pointer_line : PointerRow → List ℕ
pointer_line row = fields_line (pointer_fields row) ++ pointer_ending row

-- that of a row of the code's
abbrev pub pointer_row_line : Row → List ℕ
pointer_row_line row = pointer_line (row_view row)

-- the lines of rows, or their faults
abbrev pub line_reported : Result PointerRow Fault → Result (List ℕ) Fault
line_reported row = row >>= (λ r. Ok (pointer_line r))

abbrev pub lines_reported : List (Result PointerRow Fault) → List (Result (List ℕ) Fault)
lines_reported rows = map line_reported rows

-- the fields of a row, or its fault
abbrev pub fields_reported : Result PointerRow Fault → Result (List FieldView) Fault
fields_reported row = row >>= (λ r. Ok (pointer_fields r))

-- the texts of rows in a form, or their faults
abbrev pub texts_reported : (List FieldView → List ℕ) → List (Result PointerRow Fault) → List (Result (List ℕ) Fault)
texts_reported form rows = map (reported_by form) (map fields_reported rows)
