-- What contracts see of symbols.
use Rattle.std.specs.Prelude.{ℕ, ◌-◌, List, Result, Ok, length}
use Rattle.std.specs.Borrow.{Bor}
use Rattle.mach_base.specs.declared.error.Error.{Error}
use Rattle.mach_base.specs.Fault.{Fault}
use Rattle.mach_base.specs.Front.{Found}
use Rattle.mach_base.specs.Items.{items_from, read_as}
use Rattle.mach_parts.specs.Symbols.{SymbolTable, symbol_at}
use Rattle.mach_parts.specs.declared.symbols.nlist.Nlist.{Nlist}
use Rattle.mach_parts.specs.declared.symbols.Table.{Table}
use Rattle.mach_parts.specs.declared.symbols.Symbols.{Symbols}
use Rattle.mach_parts.specs.declared.symbols.CopiedSymbols.{CopiedSymbols}
use Rattle.mach_parts.specs.declared.symbols.iterator.SymbolIterator.{SymbolIterator}
use Rattle.mach_parts.specs.declared.symbols.SymbolsCtx.{SymbolsCtx}

abbrev pub table_view : Table → SymbolTable
table_view t = record { bytes = t.bytes.now; start = t.start; nsyms = t.nsyms; strtab = t.strtab; ctx = t.ctx }

-- the table of some symbols
abbrev pub table_of : Symbols → SymbolTable
table_of s = table_view s.table

-- the table of copied symbols
abbrev pub copied_table : CopiedSymbols → SymbolTable
copied_table s = table_view s.copy

-- a symbol with its name, as it was read
abbrev pub symbol_read : Result (Bor (List ℕ) × Nlist) Error → Result (List ℕ × Nlist) Fault
symbol_read answer = read_as (λ found. (found.0.now, found.1)) answer

-- the remaining items of an iterator
abbrev pub symbols_left : SymbolIterator → List (Result (List ℕ × Nlist) Fault)
symbols_left i = items_from (symbol_at (table_view i.source.table)) i.index (i.source.table.nsyms - i.index)

-- all bytes as a table without a command: the records begin at 0
abbrev pub symbols_front : SymbolsCtx → List ℕ → Found SymbolTable
symbols_front c bytes =
    Ok (record { bytes = bytes; start = 0; nsyms = c.nsyms; strtab = c.strtab; ctx = c.ctx }, length bytes)
