use Rattle.std.proofs.Common.{◌≡◌, ◌+◌, ◌<◌, ◌^◌, ◌++◌, length}
use Rattle.mach_parts.specs.Symbols.{symbols_of, table_in_bounds}
use Rattle.mach_parts.specs.SymbolViews.{symbols_left, table_of}
use Rattle.goblin_mach.specs.MappedSymbols.{mapped_from}
use Rattle.goblin_mach.proofs.symbol_map.mapped_symbols.Given as goal

-- the symbols so far, and those of the items that are left, are those of all items
abbrev pub invariant-symbols : goal.invariant-symbols
invariant-symbols g l = record {
  few : l.index + length (symbols_left l.item-iterator) < 2 ^ 64;
  so_far : l.symbols.items ++ mapped_from l.index (symbols_left l.item-iterator) ≡ mapped_from 0 (symbols_of (table_in_bounds (table_of l.table)));
}
