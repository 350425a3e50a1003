-- The UUIDs and the entry point of an image, as rows.
use Rattle.std.specs.Prelude.{◌≡◌, ℕ, List, drop, map, Option, Some, None, option_map}
use Rattle.std.specs.List.{filter_map}
use Rattle.mach_load.specs.Command.{Command}
use Rattle.mach_load.specs.Variants.{command_of}
use Rattle.mach_parts.specs.SectionRecord.{section_holding}
use Rattle.mach_parts.specs.declared.header.Header.{Header}
use Rattle.goblin_mach.specs.ImageFacts.{Facts}
use Rattle.goblin_mach.specs.NamedParts.{symbols_within}
use Rattle.goblin_mach.specs.NearestSymbol.{IsSymbolAt}
use Rattle.goblin_mach.specs.declared.macho.nearest.SymbolAt.{SymbolAt}
use Rattle.mach_parts.specs.declared.segment.numbered.NumberedSection.{NumberedSection}
use Rattle.mach_audit.specs.FactRows.{uuid_by}
use Rattle.machinfo.specs.declared.parts.EntryRow.{EntryRow}
use Rattle.machinfo.specs.declared.parts.EntrySymbol.{EntrySymbol}
use Rattle.machinfo.specs.declared.parts.UuidRow.{UuidRow}
use Rattle.machinfo.specs.declared.parts.UuidRows.{UuidRows}

-- an entry point: its address, the first section that holds it, and the nearest symbol of that section at or below it: the name, and how
-- far the address is above it
pub record EntryView : Type 0 where
  pub address : ℕ
  pub section : Option NumberedSection
  pub symbol : Option (List ℕ × ℕ)

-- the UUID that a command gives, with the cpu of the image
abbrev pub uuid_row_by : Header → Command → Option UuidRow
uuid_row_by h c = option_map (λ uuid. record { uuid = uuid; cputype = h.cputype; cpusubtype = h.cpusubtype }) (uuid_by c)

-- the name of a symbol that was found, and how far the address is above it
abbrev pub symbol_seen : Option SymbolAt → Option (List ℕ × ℕ)
symbol_seen found = option_map (λ x. (x.name.now, x.distance)) found

-- An image has this symbol at an address, as `machinfo at` shows it (IsSymbolAt).
abbrev pub IsSymbolThere : (address : ℕ) → Facts → Option (List ℕ × ℕ) → Type 0
IsSymbolThere address f seen =
    (found : Option SymbolAt) × IsSymbolAt f.segments (symbols_within f.symbols) (section_holding f.segments address) address found
    × (seen ≡ symbol_seen found)

-- This is where an image begins to run, if that is known.
abbrev pub IsEntryRow : (entry : ℕ) → Facts → Option EntryView → Type 0
IsEntryRow entry f None = entry ≡ 0
IsEntryRow entry f (Some row) = (row.address ≡ entry) × (row.section ≡ section_holding f.segments entry) × IsSymbolThere entry f row.symbol

-- ---- what the code's values mean

abbrev pub entry_symbol_view : EntrySymbol → List ℕ × ℕ
entry_symbol_view s = (s.name.now, s.distance)

abbrev pub entry_view : EntryRow → EntryView
entry_view row = record { address = row.address; section = row.section; symbol = option_map entry_symbol_view row.symbol }

abbrev pub uuid_rows_left : UuidRows → List UuidRow
uuid_rows_left it = filter_map (uuid_row_by it.header) (map command_of (drop it.number it.commands.now))
