-- The lines of symbols, as `nm` prints them.
use Rattle.std.specs.Prelude.{ℕ, ◌-◌, ◌^◌, List, [], ◌++◌, codes, map, Bool, true, false, Option, Some, None, Result}
use Rattle.std.specs.Prelude.{if◌then◌else◌}
use Rattle.std.specs.Char.{encode_utf8}
use Rattle.std.specs.Fmt.{digits, padded, padded_integral, format_spec}
use Rattle.std.specs.List.{filter}
use Rattle.mach_base.specs.Fault.{Fault}
use Rattle.mach_parts.specs.Symbols.{SymbolTable, table_in_bounds, is_stab}
use Rattle.mach_parts.specs.declared.symbols.nlist.Nlist.{Nlist}
use Rattle.mach_cli.specs.Listings.{reported_by}
use Rattle.machsyms.specs.Request.{is_elsewhere, takes}
use Rattle.machsyms.specs.Letters.{symbol_letter}
use Rattle.machsyms.specs.Setting.{SymbolSetting, symbol_described}
use Rattle.mach_cli.specs.NamesShown.{file_text, name_shown}
use Rattle.machsyms.specs.Stabs.{stab_name}
use Rattle.machsyms.specs.declared.selection.Request.{Request}
use Rattle.machsyms.specs.declared.selection.Form.{Form}
use Rattle.machsyms.specs.declared.selection.Form.TheVariants.{Letters, Names, Hexadecimal, Words}

-- a number in `width` hexadecimal digits, with leading zeros
abbrev pub padded_hex : ℕ → ℕ → List ℕ
padded_hex width n = padded_integral (format_spec 32 0 4 width (2 ^ 64 - 1)) false [] (digits 16 false n)

-- a text with leading blanks, up to a width
abbrev pub right : ℕ → List ℕ → List ℕ
right width text = padded (format_spec 32 3 0 width (2 ^ 64 - 1)) text

-- the value that is printed, if one is
abbrev pub value_shown : Nlist → Option ℕ
value_shown s = if is_elsewhere s then None else Some s.n_value

-- a value in 16 digits, or 8 in a 32-bit image; as many blanks if there is none
abbrev pub value_text : (is_64 : Bool) → Option ℕ → List ℕ
value_text true (Some value) = padded_hex 16 value
value_text false (Some value) = padded_hex 8 value
value_text true None = codes "                "
value_text false None = codes "        "

-- the name of a type of entry, or its number
abbrev pub stab_text : ℕ → Option (List ℕ) → List ℕ
stab_text n_type (Some name) = right 5 name
stab_text n_type None = codes "   " ++ padded_hex 2 n_type

-- what the symbol is: its letter, or for a debugging entry the section's number, the flags and the type
abbrev pub kind_text : List ℕ → Nlist → List ℕ
kind_text sections s =
    if is_stab s then codes "- " ++ padded_hex 2 s.n_sect ++ codes " " ++ padded_hex 4 s.n_desc ++ codes " " ++ stab_text s.n_type (stab_name s.n_type)
    else encode_utf8 (symbol_letter sections s)

-- a symbol with its name as it is printed, given the letters of sections
abbrev pub letter_text : (is_64 : Bool) → (letters name : List ℕ) → Nlist → List ℕ
letter_text is_64 letters name s = value_text is_64 (value_shown s) ++ codes " " ++ kind_text letters s ++ codes " " ++ name

-- a symbol in words; a debugging entry as in the other forms
abbrev pub words_text : (is_raw : Bool) → SymbolSetting → List ℕ → Nlist → List ℕ
words_text is_raw w name s =
    if is_stab s then letter_text w.is_64 w.letters (name_shown is_raw name) s
    else value_text w.is_64 (value_shown s) ++ codes " " ++ symbol_described is_raw w name s

-- the fields of its record but the value: type, section, flags, and the offset of its name
abbrev pub fields_text : Nlist → List ℕ
fields_text s =
    padded_hex 2 s.n_type ++ codes " " ++ padded_hex 2 s.n_sect ++ codes " " ++ padded_hex 4 s.n_desc ++ codes " " ++ padded_hex 8 s.n_strx

-- a symbol in the selected form, with its name escaped or as it is
abbrev pub form_text : Form → (is_raw : Bool) → SymbolSetting → List ℕ → Nlist → List ℕ
form_text Letters is_raw w name s = letter_text w.is_64 w.letters (name_shown is_raw name) s
form_text Words is_raw w name s = words_text is_raw w name s
form_text Names is_raw w name s = name_shown is_raw name
form_text Hexadecimal is_raw w name s = value_text w.is_64 (Some s.n_value) ++ codes " " ++ fields_text s ++ codes " " ++ name_shown is_raw name

-- the line of a symbol with its name
abbrev pub line_text : Request → SymbolSetting → List ℕ × Nlist → List ℕ
line_text a w found = file_text a.is_raw a.file ++ form_text a.form a.is_raw w found.0 found.1

-- the word before the error of a symbol that can't be read
abbrev pub unreadable_word : Request → List ℕ
unreadable_word a = file_text a.is_raw a.file ++ codes "unreadable"

-- the lines of the selected symbols; a fault stays in its place
abbrev pub selected_lines : Request → SymbolSetting → List (Result (List ℕ × Nlist) Fault) → List (Result (List ℕ) Fault)
selected_lines a w symbols = map (reported_by (line_text a w)) (filter (takes a) symbols)

-- how many symbols of a table have records that don't begin within the bytes
abbrev pub past_the_end : Option SymbolTable → ℕ
past_the_end None = 0
past_the_end (Some t) = t.nsyms - (table_in_bounds t).nsyms

-- The symbols of a table whose records begin within the bytes, as `list` lists the symbols of a table.
abbrev pub symbols_over : (SymbolTable → List (Result (List ℕ × Nlist) Fault)) → Option SymbolTable → List (Result (List ℕ × Nlist) Fault)
symbols_over list None = []
symbols_over list (Some t) = list (table_in_bounds t)
