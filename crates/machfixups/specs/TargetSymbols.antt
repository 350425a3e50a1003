-- The symbols at the targets of rebases (`mach-o/nlist.h`, n_type, n_sect and n_value).
use Rattle.std.specs.Prelude.{◌≡◌, ℕ, List, Option, Some, None, option_map}
use Rattle.goblin_mach.specs.LookedUpFacts.{HasSymbolAt}
use Rattle.goblin_mach.specs.SymbolAtAddress.{SymbolBelow, image_symbol_at, symbol_below}
use Rattle.goblin_mach.specs.SymbolMaps.{image_of_addresses}
use Rattle.goblin_mach.specs.declared.addresses.map.AddressMap.{AddressMap}
use Rattle.goblin_mach.specs.declared.macho.nearest.SymbolAt.{SymbolAt}
use Rattle.machfixups.specs.declared.target_symbols.TargetSymbol.{TargetSymbol}

-- these are the symbols of an image at all addresses
abbrev pub HasTargetSymbols : List ℕ → ℕ → (ℕ → Option SymbolBelow) → Type 0
HasTargetSymbols bytes o symbols =
    (a : ℕ) → (found : Option SymbolAt) × HasSymbolAt bytes o a found × (symbols a ≡ option_map symbol_below found)

-- those that are looked up; none if no rebase is shown
abbrev pub symbols_seen : {A : Type 0} → Option (AddressMap A A) → ℕ → Option SymbolBelow
symbols_seen None a = None
symbols_seen (Some m) a = image_symbol_at (image_of_addresses m) a

abbrev pub target_symbol_view : TargetSymbol → SymbolBelow
target_symbol_view s = record { name = s.name.now; distance = s.distance }

abbrev pub target_symbol_option_view : Option TargetSymbol → Option SymbolBelow
target_symbol_option_view symbol = option_map target_symbol_view symbol
