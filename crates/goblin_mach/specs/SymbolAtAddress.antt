-- The symbol at an address as a function of an image's segments and symbols (`mach-o/nlist.h`, n_type, n_sect and n_value).
use Rattle.std.specs.Prelude.{ℕ, ◌-◌, List, [], ◌∷◌, Option, Some, None, Result, Ok, Err, nat_le, if◌then◌else◌}
use Rattle.mach_base.specs.Fault.{Fault}
use Rattle.mach_parts.specs.SectionRecord.{section_holding}
use Rattle.mach_parts.specs.Segment.{SegmentView}
use Rattle.mach_parts.specs.declared.segment.numbered.NumberedSection.{NumberedSection}
use Rattle.mach_parts.specs.declared.symbols.nlist.Nlist.{Nlist}
use Rattle.goblin_mach.specs.NearestSymbol.{is_below, section_number}
use Rattle.goblin_mach.specs.OpenImage.{segments_view}
use Rattle.goblin_mach.specs.SymbolMaps.{image_symbols}
use Rattle.goblin_mach.specs.declared.macho.MachO.{MachO}
use Rattle.goblin_mach.specs.declared.macho.nearest.SymbolAt.{SymbolAt}

-- a symbol at or below an address, and how far the address is above its value
pub record SymbolBelow : Type 0 where
  pub name : List ℕ
  pub distance : ℕ

-- what a symbol that was found says of these
abbrev pub symbol_below : SymbolAt → SymbolBelow
symbol_below x = record { name = x.name.now; distance = x.distance }

-- an item, if it is a symbol of the section with number n at or below the address
abbrev pub below_if_any : (n a : ℕ) → Result (List ℕ × Nlist) Fault → Option SymbolBelow
below_if_any n a (Ok found) = if is_below n a found.1 then Some (record { name = found.0; distance = a - found.1.n_value }) else None
below_if_any n a (Err f) = None

-- the nearer of a symbol and one after it in the table; the later one if both are as near
abbrev pub nearer_of : (first later : Option SymbolBelow) → Option SymbolBelow
nearer_of first None = first
nearer_of None (Some later) = Some later
nearer_of (Some first) (Some later) = if nat_le later.distance first.distance then Some later else Some first

-- the nearest of some symbols
abbrev pub nearest_of : (n a : ℕ) → List (Result (List ℕ × Nlist) Fault) → Option SymbolBelow
nearest_of n a [] = None
nearest_of n a (item ∷ items) = nearer_of (below_if_any n a item) (nearest_of n a items)

-- the nearest of a section's, if there is a section
abbrev pub nearest_in_section : List SegmentView → List (Result (List ℕ × Nlist) Fault) → Option NumberedSection → ℕ → Option SymbolBelow
nearest_in_section ss items None a = None
nearest_in_section ss items (Some h) a = nearest_of (section_number ss h) a items

-- the nearest of the first section that holds the address
abbrev pub symbol_at_address : List SegmentView → List (Result (List ℕ × Nlist) Fault) → ℕ → Option SymbolBelow
symbol_at_address ss items a = nearest_in_section ss items (section_holding ss a) a

-- that of an image
abbrev pub image_symbol_at : {A : Type 0} → MachO A → ℕ → Option SymbolBelow
image_symbol_at m a = symbol_at_address (segments_view m) (image_symbols m) a
