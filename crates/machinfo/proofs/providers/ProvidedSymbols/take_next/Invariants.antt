use Rattle.std.proofs.Common.{◌≡◌, length}
use Rattle.mach_parts.specs.SymbolViews.{symbols_left}
use Rattle.machinfo.specs.ProvidedSymbols.{provided_left}
use Rattle.machinfo.proofs.providers.ProvidedSymbols.take_next.Given as goal

abbrev pub invariant-symbols : goal.invariant-symbols
invariant-symbols g l = provided_left l.initial.self ≡ provided_left l.self

abbrev pub decreases-symbols : goal.decreases-symbols
decreases-symbols g l = length (symbols_left l.self.symbols)
