use Rattle.std.proofs.Common.{◌≡◌, length}
use Rattle.mach_parts.specs.SymbolViews.{symbols_left}
use Rattle.goblin_mach_c.specs.SymbolMaps.{defined_left}
use Rattle.goblin_mach_c.proofs.symbol_numbers.DefinedNumbersRows.next.Given as goal

abbrev pub invariant-symbols : goal.invariant-symbols
invariant-symbols l = defined_left l.initial.self ≡ defined_left l.self

abbrev pub decreases-symbols : goal.decreases-symbols
decreases-symbols l = length (symbols_left l.self.symbols)
