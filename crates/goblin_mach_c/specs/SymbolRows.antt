-- Symbols as C sees them.
use Rattle.std.specs.Prelude.{◌≡◌, ℕ, ◌-◌, List, length, Result, Ok, Err, nat_lt, if◌then◌else◌}
use Rattle.mach_base.specs.Fault.{Fault}
use Rattle.mach_base.specs.Items.{items_from}
use Rattle.mach_base.specs.Number.{place_after}
use Rattle.mach_base.specs.Text.{run_at, text_at}
use Rattle.mach_parts.specs.Symbols.{SymbolTable, nlist_at, symbol_place}
use Rattle.mach_parts.specs.declared.symbols.nlist.Nlist.{Nlist}
use Rattle.goblin_mach_c.specs.Codes.{code_of_fault}
use Rattle.goblin_mach_c.specs.CViews.{gm_ctx_view}
use Rattle.goblin_mach_c.specs.declared.images.gm_image.{gm_image}
use Rattle.goblin_mach_c.specs.declared.symbols.Table.{Table}
use Rattle.goblin_mach_c.specs.declared.symbols.gm_symbol.{gm_symbol}
use Rattle.goblin_mach_c.specs.declared.symbols.SymbolRows.{SymbolRows}

-- 0 for a text, else why there is none
abbrev pub text_code : Result (List ℕ) Fault → ℕ
text_code (Ok text) = 0
text_code (Err f) = code_of_fault f

-- The row of a record whose name begins at a place: the bytes there up to a zero, whether or not they are text. A place past the
-- end has no name, and is reported as 0.
abbrev pub named_row : List ℕ → ℕ → Nlist → gm_symbol
named_row bytes place s =
    record {
      value = s.n_value;
      name = if nat_lt place (length bytes) then place else 0;
      name_len = length (run_at bytes place);
      section = s.n_sect;
      code = text_code (text_at bytes place);
      desc = s.n_desc;
      n_type = s.n_type;
      reserved = 0;
    }

-- why a record can't be read
abbrev pub unread_row : Fault → gm_symbol
unread_row f = record { value = 0; name = 0; name_len = 0; section = 0; code = code_of_fault f; desc = 0; n_type = 0; reserved = 0 }

-- the row of a record that was read; its name counts from a place
abbrev pub read_row : List ℕ → ℕ → Result Nlist Fault → gm_symbol
read_row bytes strtab (Ok s) = named_row bytes (place_after strtab s.n_strx) s
read_row bytes strtab (Err f) = unread_row f

-- the row of symbol k of a table
abbrev pub symbol_row : SymbolTable → ℕ → gm_symbol
symbol_row t k = read_row t.bytes t.strtab (nlist_at t.ctx t.bytes (symbol_place t k))

-- A row is that of a symbol with its name, which is at its place; or it says why one of them is missing.
abbrev pub SaysSymbol : ℕ → Result (List ℕ × Nlist) Fault → gm_symbol → Type 0
SaysSymbol strtab (Ok found) row =
    row ≡ record {
      value = found.1.n_value;
      name = place_after strtab found.1.n_strx;
      name_len = length found.0;
      section = found.1.n_sect;
      code = 0;
      desc = found.1.n_desc;
      n_type = found.1.n_type;
      reserved = 0;
    }
SaysSymbol strtab (Err f) row = row.code ≡ code_of_fault f

-- the table that the numbers of an image describe
abbrev pub gm_table_view : List ℕ → gm_image → SymbolTable
gm_table_view bytes c = record { bytes = bytes; start = c.symbols_at; nsyms = c.symbols; strtab = c.names_at; ctx = gm_ctx_view c }

-- all symbols of an image
abbrev pub symbol_rows : List ℕ → gm_image → List gm_symbol
symbol_rows bytes image = items_from (symbol_row (gm_table_view bytes image)) 0 image.symbols

-- ---- what is left for the rows

abbrev pub symbol_table_in : Table → SymbolTable
symbol_table_in t = record { bytes = t.bytes.now; start = t.start; nsyms = t.count; strtab = t.strtab; ctx = t.ctx }

abbrev pub symbol_rows_left : SymbolRows → List gm_symbol
symbol_rows_left it = items_from (symbol_row (symbol_table_in it.table)) it.next (it.table.count - it.next)
