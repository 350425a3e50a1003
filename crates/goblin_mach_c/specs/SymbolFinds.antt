-- The symbol of a name or an address, and the function at an address, as C sees them.
use Rattle.std.specs.Prelude.{◌≡◌, ℕ, List, Option, Some, None, drop, map, option_map}
use Rattle.mach_parts.specs.declared.symbols.nlist.Nlist.{Nlist}
use Rattle.goblin_mach.specs.LookedUpFacts.{HasFunctionAt, HasSymbolAt, HasSymbolNamed, HasSymbolsNamed}
use Rattle.goblin_mach.specs.declared.macho.nearest.Function.{Function}
use Rattle.goblin_mach.specs.declared.macho.nearest.SymbolAt.{SymbolAt}
use Rattle.goblin_mach_c.specs.Fill.{Fills}
use Rattle.goblin_mach_c.specs.SymbolRows.{gm_table_view, symbol_row}
use Rattle.goblin_mach_c.specs.declared.images.gm_image.{gm_image}
use Rattle.goblin_mach_c.specs.declared.symbol_finds.gm_found_function.{gm_found_function}
use Rattle.goblin_mach_c.specs.declared.symbol_finds.gm_found_symbol.{gm_found_symbol}
use Rattle.goblin_mach_c.specs.declared.symbols.gm_symbol.{gm_symbol}

abbrev pub no_symbol_row : gm_symbol
no_symbol_row = record { value = 0; name = 0; name_len = 0; section = 0; code = 0; desc = 0; n_type = 0; reserved = 0 }

-- a symbol, by its index and its distance, or that there is none
abbrev pub found_symbol_row : List ℕ → gm_image → Option (ℕ × ℕ) → gm_found_symbol
found_symbol_row bytes c (Some found) =
    record { symbol = symbol_row (gm_table_view bytes c) found.0; index = found.0; distance = found.1; is_found = 1; reserved = 0 }
found_symbol_row bytes c None = record { symbol = no_symbol_row; index = 0; distance = 0; is_found = 0; reserved = 0 }

-- a symbol of a name, by its index
abbrev pub named_symbol_row : List ℕ → gm_image → ℕ × Nlist → gm_found_symbol
named_symbol_row bytes c found = found_symbol_row bytes c (Some (found.0, 0))

-- The rows of an image's symbols with a name from index `first` of these on were written, as many as there are and fit.
pub record WritesSymbolsNamed (bytes : List ℕ) (c : gm_image) (name : List ℕ) (first : ℕ) (old new : List gm_found_symbol) (n : ℕ) : Type 0 where
  pub symbols : List (ℕ × Nlist)
  pub has : HasSymbolsNamed bytes c.offset name symbols
  pub rows : Fills (drop first (map (named_symbol_row bytes c) symbols)) old new n

-- the row is that of the image's first symbol with a name
abbrev pub FindsSymbolNamed : List ℕ → gm_image → List ℕ → gm_found_symbol → Type 0
FindsSymbolNamed bytes c name row =
    (found : Option (ℕ × Nlist)) × HasSymbolNamed bytes c.offset name found × (row ≡ found_symbol_row bytes c (option_map (λ x. (x.0, 0)) found))

-- the row is that of the image's symbol at an address
abbrev pub FindsSymbolAt : List ℕ → gm_image → ℕ → gm_found_symbol → Type 0
FindsSymbolAt bytes c a row =
    (found : Option SymbolAt) × HasSymbolAt bytes c.offset a found
    × (row ≡ found_symbol_row bytes c (option_map (λ x. (x.index, x.distance)) found))

abbrev pub found_function_row : Option Function → gm_found_function
found_function_row (Some f) = record { start = f.start; end = f.end; is_found = 1; reserved = 0 }
found_function_row None = record { start = 0; end = 0; is_found = 0; reserved = 0 }

-- the row is that of the image's function at an address
abbrev pub FindsFunctionAt : List ℕ → ℕ → ℕ → gm_found_function → Type 0
FindsFunctionAt bytes o a row = (found : Option Function) × HasFunctionAt bytes o a found × (row ≡ found_function_row found)
