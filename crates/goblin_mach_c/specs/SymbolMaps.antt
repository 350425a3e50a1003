-- A map of an image's symbols by address, in an array of the caller's: the numbers of those that are defined in sections, sorted.
use Rattle.std.specs.Prelude.{◌≡◌, ◌<◌, ◌≤◌, ◌+◌, ℕ, List, [], ◌∷◌, length, map, take, drop, Option, Some, None, Result, Ok, Err}
use Rattle.std.specs.Prelude.{IfSome, if◌then◌else◌}
use Rattle.mach_base.specs.Fault.{Fault}
use Rattle.mach_parts.specs.SymbolViews.{symbols_left}
use Rattle.mach_parts.specs.Symbols.{SymbolTable, symbol_record_at, symbols_of, table_in_bounds}
use Rattle.mach_parts.specs.declared.symbols.nlist.Nlist.{Nlist}
use Rattle.goblin_mach.specs.Facts.{OfImage}
use Rattle.goblin_mach.specs.MappedSymbols.{AreMapped, is_defined_symbol}
use Rattle.goblin_mach.specs.NamedParts.{symbols_within}
use Rattle.goblin_mach.specs.Subjects.{table_in}
use Rattle.goblin_mach.specs.declared.symbol_map.MappedSymbol.{MappedSymbol}
use Rattle.goblin_mach_c.specs.SymbolFinds.{found_symbol_row}
use Rattle.goblin_mach_c.specs.declared.images.gm_image.{gm_image}
use Rattle.goblin_mach_c.specs.declared.symbol_finds.gm_found_symbol.{gm_found_symbol}
use Rattle.goblin_mach_c.specs.declared.symbol_numbers.DefinedNumbers.{DefinedNumbers}

-- the numbers of those that are defined in a section and are no debugging entries, of items of which the first has a number
abbrev pub defined_from : ℕ → List (Result (List ℕ × Nlist) Fault) → List ℕ
defined_from k [] = []
defined_from k (item ∷ items) = if is_defined_symbol item then k ∷ defined_from (k + 1) items else defined_from (k + 1) items

abbrev pub defined_left : DefinedNumbers → List ℕ
defined_left it = defined_from it.index (symbols_left it.symbols)

-- a symbol of a map by its number and its record; one whose record can't be read has section 0 and value 0
abbrev pub record_on_map : ℕ → Result Nlist Fault → MappedSymbol
record_on_map k (Ok s) = record { section = s.n_sect; value = s.n_value; index = k }
record_on_map k (Err f) = record { section = 0; value = 0; index = k }

abbrev pub numbered_symbol : SymbolTable → ℕ → MappedSymbol
numbered_symbol t k = record_on_map k (symbol_record_at t k)

-- The symbols with these numbers are the map of a table: those that are defined in sections, by section, then by value, then by number.
abbrev pub IsOrderOf : SymbolTable → List ℕ → Type 0
IsOrderOf t order = AreMapped (symbols_of t) (map (numbered_symbol t) order)

-- the same of the symbols of a table whose records begin within the bytes; no numbers if there is no table
abbrev pub IsSymbolOrder : Option SymbolTable → List ℕ → Type 0
IsSymbolOrder None order = order ≡ []
IsSymbolOrder (Some t) order = IsOrderOf (table_in_bounds t) order

-- These numbers are the map of the image that opens at a place.
abbrev pub IsSymbolMap : List ℕ → ℕ → List ℕ → Type 0
IsSymbolMap bytes o order = OfImage bytes o (λ ctx cs. IsSymbolOrder (table_in ctx bytes cs) order)

-- How many numbers there are, and what an array holds after they were written: sorted if they fit, with the rest unchanged. If they
-- don't, it holds the first of them in their own order.
pub record WritesSorted (numbers : List ℕ) (AreSorted : List ℕ → Type 0) (old new : List ℕ) (n : ℕ) : Type 0 where
  pub count : n ≡ length numbers
  pub fits : n ≤ length old → AreSorted (take n new) × (drop n new ≡ drop n old)
  pub cut : length old < n → new ≡ take (length old) numbers

-- the map of a table was written
abbrev pub WritesOrderOf : SymbolTable → (old new : List ℕ) → ℕ → Type 0
WritesOrderOf t = WritesSorted (defined_from 0 (symbols_of t)) (IsOrderOf t)

abbrev pub WritesOrder : Option SymbolTable → (old new : List ℕ) → ℕ → Type 0
WritesOrder table = WritesSorted (defined_from 0 (symbols_within table)) (IsSymbolOrder table)

-- the map of the image that opens at a place was written
abbrev pub WritesSymbolMap : List ℕ → ℕ → (old new : List ℕ) → ℕ → Type 0
WritesSymbolMap bytes o old new n = OfImage bytes o (λ ctx cs. WritesOrder (table_in ctx bytes cs) old new n)

-- the row is that of a symbol of the image's table whose record begins within the bytes, or it says that there is none
abbrev pub IsRowOfSymbol : List ℕ → gm_image → gm_found_symbol → Type 0
IsRowOfSymbol bytes c row =
    (found : Option (ℕ × ℕ)) × (row ≡ found_symbol_row bytes c found)
    × OfImage bytes c.offset (λ ctx cs. IfSome found (λ x. x.0 < length (symbols_within (table_in ctx bytes cs))))
