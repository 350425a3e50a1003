-- What is left of the symbols of one name.
use Rattle.std.specs.Prelude.{ℕ, List}
use Rattle.mach_parts.specs.SymbolViews.{symbols_left}
use Rattle.mach_parts.specs.declared.symbols.nlist.Nlist.{Nlist}
use Rattle.goblin_mach.specs.NamedParts.{symbols_of_name}
use Rattle.goblin_mach.specs.declared.macho.named_symbols.NamedSymbols.{NamedSymbols}

-- the remaining entries of an iterator
abbrev pub named_left : NamedSymbols → List (ℕ × Nlist)
named_left it = symbols_of_name it.name.now it.index (symbols_left it.symbols)
