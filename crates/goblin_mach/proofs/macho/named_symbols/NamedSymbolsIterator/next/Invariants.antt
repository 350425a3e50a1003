use Rattle.std.proofs.Common.{◌≡◌, length}
use Rattle.mach_parts.specs.SymbolViews.{symbols_left}
use Rattle.goblin_mach.specs.NamedLeft.{named_left}
use Rattle.goblin_mach.proofs.macho.named_symbols.NamedSymbolsIterator.next.Given as goal

abbrev pub invariant-symbols : goal.invariant-symbols
invariant-symbols l = named_left l.initial.self ≡ named_left l.self

abbrev pub decreases-symbols : goal.decreases-symbols
decreases-symbols l = length (symbols_left l.self.symbols)
