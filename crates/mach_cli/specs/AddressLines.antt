-- What an image has at an address, as a line.
use Rattle.std.specs.Prelude.{◌≡◌, ℕ, List, [], ◌++◌, codes, Bool, true, Option, Some, None}
use Rattle.std.specs.Borrow.{Bor}
use Rattle.mach_base.specs.Text.{text_at}
use Rattle.mach_records.specs.declared.segments.Section64.{Section64}
use Rattle.mach_parts.specs.declared.segment.numbered.NumberedSection.{NumberedSection}
use Rattle.goblin_mach.specs.declared.macho.nearest.Function.{Function}
use Rattle.goblin_mach.specs.declared.macho.nearest.SymbolAt.{SymbolAt}
use Rattle.mach_cli.specs.Listings.{hex_text}
use Rattle.mach_cli.specs.AddressRows.{AreAddressRows}
use Rattle.mach_cli.specs.NamesShown.{file_if, file_text, name_or_mark, name_shown}
use Rattle.goblin_mach.specs.declared.addresses.FoundAt.{FoundAt}

-- the names of a section's segment and of the section; a mark for one that can't be read
abbrev pub holder_text : (is_raw : Bool) → Section64 → List ℕ
holder_text is_raw s =
    name_shown is_raw (name_or_mark (text_at s.segname 0)) ++ (codes "," ++ name_shown is_raw (name_or_mark (text_at s.sectname 0)))

-- the symbol, and how far the address is above it
abbrev pub nearest_text : (is_raw : Bool) → Option SymbolAt → List ℕ
nearest_text is_raw None = codes "no symbol"
nearest_text is_raw (Some x) = name_shown is_raw x.name.now ++ (codes "+" ++ hex_text x.distance)

-- the addresses of the function: of its first byte, and after its last one
abbrev pub function_text : Option Function → List ℕ
function_text None = []
function_text (Some f) = codes "  function " ++ (hex_text f.start ++ (codes ".." ++ hex_text f.end))

-- what holds the address; without a section there is neither a symbol nor a function
abbrev pub held_by_text : (is_raw : Bool) → Option NumberedSection → Option SymbolAt → Option Function → List ℕ
held_by_text is_raw None symbol function = codes "no section"
held_by_text is_raw (Some h) symbol function = holder_text is_raw h.section ++ (codes "  " ++ (nearest_text is_raw symbol ++ function_text function))

abbrev pub held_text : (is_raw : Bool) → FoundAt → List ℕ
held_text is_raw x = held_by_text is_raw x.section x.symbol x.function

-- the line of an address without its end, after the name of the file if that is selected
abbrev pub at_text : (is_raw : Bool) → Option (Bor (List ℕ)) → (address : ℕ) → FoundAt → List ℕ
at_text is_raw file address found = file_text is_raw file ++ (hex_text address ++ (codes "  " ++ held_text is_raw found))

-- the line of an address, after the name of the file if that is selected
abbrev pub at_line : (is_raw : Bool) → Option (Bor (List ℕ)) → (is_first : Bool) → (address : ℕ) → FoundAt → List ℕ
at_line is_raw file is_first address found = at_text is_raw file address found ++ codes "\n"

-- The text is the lines of what the image at the start of the bytes has at these addresses, where it is loaded. They don't count against
-- the limit.
pub record AreAddressLines (load_address : Option ℕ) (addresses : List ℕ) (has_file is_raw : Bool) (file : List ℕ) (limit left : ℕ)
    (bytes : List ℕ) (text : List ℕ) (whole : Bool) (rest : ℕ) : Type 0 where
  pub name : Bor (List ℕ)
  pub is_name : name.now ≡ file
  pub rows : AreAddressRows (at_line is_raw (file_if has_file name)) load_address bytes true addresses text whole
  pub is_rest : rest ≡ left
