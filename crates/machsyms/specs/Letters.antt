-- The letters that `nm` prints for what a symbol is (`mach-o/nlist.h`).
use Rattle.std.specs.Prelude.{◌==◌, ℕ, zero, suc, List, codes, take, map, slice_index, slice_get, bit_and, unwrap_or, Bool, false, ◌&&◌, Option, Some, None}
use Rattle.std.specs.Prelude.{Result, Ok, Err}
use Rattle.std.specs.Option.{option_flatten}
use Rattle.std.specs.Prelude.{if◌then◌else◌}
use Rattle.std.specs.Char.{to_ascii_uppercase}
use Rattle.std.specs.List.{flat_map}
use Rattle.std.specs.Str.{bytes_eq}
use Rattle.mach_base.specs.Fault.{Fault}
use Rattle.mach_base.specs.Text.{text_at}
use Rattle.mach_parts.specs.Segment.{SegmentView, sections_of}
use Rattle.mach_parts.specs.Symbols.{type_of}
use Rattle.mach_parts.specs.declared.segment.section.Section.{Section}
use Rattle.mach_parts.specs.declared.symbols.nlist.Nlist.{Nlist}

-- the one letter of a text
abbrev pub letter : List ℕ → ℕ
letter text = slice_index text 0

-- whether a name can be read and is this one
abbrev pub is_name : List ℕ → Result (List ℕ) Fault → Bool
is_name wanted (Ok name) = bytes_eq name wanted
is_name wanted (Err f) = false

-- whether these are the names of a section's segment and of the section
abbrev pub is_called : List ℕ → List ℕ → Section → Bool
is_called segment name s = is_name segment (text_at s.segname 0) && is_name name (text_at s.sectname 0)

abbrev pub section_letter : Section → ℕ
section_letter s =
    if is_called (codes "__TEXT") (codes "__text") s then letter (codes "t")
    else (if is_called (codes "__DATA") (codes "__data") s then letter (codes "d")
    else (if is_called (codes "__DATA") (codes "__bss") s then letter (codes "b")
    else letter (codes "s")))

-- the sections of all segments, as many as a symbol can name (MAX_SECT); None is one that can't be read
abbrev pub item_section : Result (Section × List ℕ) Fault → Option Section
item_section (Ok found) = Some found.0
item_section (Err f) = None

abbrev pub named_sections : List SegmentView → List (Option Section)
named_sections segments = take 255 (map item_section (flat_map sections_of segments))

-- the section with a number, counted from 1, if it is among these and can be read
abbrev pub section_by : List (Option Section) → ℕ → Option Section
section_by sections zero = None
section_by sections (suc index) = option_flatten (slice_get sections index)

-- a section that can't be read has the letter of any other
abbrev pub letter_of : Option Section → ℕ
letter_of None = letter (codes "s")
letter_of (Some s) = section_letter s

abbrev pub letters_of : List SegmentView → List ℕ
letters_of segments = map letter_of (named_sections segments)

-- the letter of a section by its number, counted from 1
abbrev pub letter_at : List ℕ → ℕ → ℕ
letter_at sections zero = letter (codes "s")
letter_at sections (suc index) = unwrap_or (slice_get sections index) (letter (codes "s"))

-- not external: the bit N_EXT is 0
abbrev pub is_local : Nlist → Bool
is_local s = bit_and s.n_type 0x1 == 0

-- the letter of a type: N_UNDF is undefined, or common if it has a value; N_ABS, N_INDR, N_SECT
abbrev pub type_letter : List ℕ → Nlist → ℕ
type_letter sections s =
    let kind = type_of s.n_type in
    if kind == 0x0 then (if is_local s then letter (codes "?") else (if s.n_value == 0 then letter (codes "u") else letter (codes "c")))
    else (if kind == 0x2 then letter (codes "a")
    else (if kind == 0xa then letter (codes "i")
    else (if kind == 0xe then letter_at sections s.n_sect
    else letter (codes "?"))))

-- the letter of a symbol, a capital if it is external
abbrev pub symbol_letter : List ℕ → Nlist → ℕ
symbol_letter sections s = if is_local s then type_letter sections s else to_ascii_uppercase (type_letter sections s)
