-- What contracts see of a map of symbols, and of a map of addresses.
use Rattle.std.specs.Prelude.{ℕ, List, Result}
use Rattle.mach_base.specs.Fault.{Fault}
use Rattle.mach_parts.specs.declared.symbols.nlist.Nlist.{Nlist}
use Rattle.goblin_mach.specs.ImageSlots.{symbol_table_view}
use Rattle.goblin_mach.specs.NamedParts.{symbols_within}
use Rattle.goblin_mach.specs.declared.addresses.map.AddressMap.{AddressMap}
use Rattle.goblin_mach.specs.declared.macho.MachO.{MachO}
use Rattle.goblin_mach.specs.declared.symbol_map.SymbolMap.{SymbolMap}

-- the image whose symbols a map holds
abbrev pub image_of_map : {A B : Type 0} → SymbolMap A B → MachO A
image_of_map m = m.image.now

-- the image of a map of addresses
abbrev pub image_of_addresses : {A B : Type 0} → AddressMap A B → MachO A
image_of_addresses m = m.symbols.image.now

-- the symbols of an image that are looked up by address: those of its table whose records begin within the bytes
abbrev pub image_symbols : {A : Type 0} → MachO A → List (Result (List ℕ × Nlist) Fault)
image_symbols m = symbols_within (symbol_table_view m)
