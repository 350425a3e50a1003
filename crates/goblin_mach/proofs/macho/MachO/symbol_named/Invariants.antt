use Rattle.std.proofs.Common.{◌≡◌, not}
use Rattle.std.specs.Prelude.{find}
use Rattle.mach_parts.specs.Symbols.{is_stab}
use Rattle.goblin_mach.specs.ImageSlots.{symbol_table_view}
use Rattle.goblin_mach.specs.NamedLeft.{named_left}
use Rattle.goblin_mach.specs.NamedParts.{symbol_of_name, symbols_within}
use Rattle.goblin_mach.proofs.macho.MachO.symbol_named.Given as goal

-- what is found of all is what is found of those that are left
abbrev pub invariant-symbols : goal.invariant-symbols
invariant-symbols g l =
    symbol_of_name l.name (symbols_within (symbol_table_view l.self)) ≡ find (λ found. not (is_stab found.1)) (named_left l.index-iterator)
