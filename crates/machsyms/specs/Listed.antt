-- What is left of the selected symbols.
use Rattle.std.specs.Prelude.{ℕ, List, drop, map, Result}
use Rattle.std.specs.List.{filter}
use Rattle.mach_base.specs.Fault.{Fault}
use Rattle.mach_parts.specs.SymbolViews.{symbols_left, table_of}
use Rattle.mach_parts.specs.declared.symbols.nlist.Nlist.{Nlist}
use Rattle.mach_cli.specs.Listings.{reported_by}
use Rattle.machsyms.specs.Request.{takes}
use Rattle.machsyms.specs.JsonSymbols.{symbol_object, symbol_reported}
use Rattle.machsyms.specs.Lines.{line_text}
use Rattle.machsyms.specs.Order.{symbols_by}
use Rattle.machsyms.specs.Setting.{setting_view}
use Rattle.machsyms.specs.declared.lines.SymbolLines.{SymbolLines}
use Rattle.machsyms.specs.declared.listed.RequestedSymbols.{RequestedSymbols}
use Rattle.machsyms.specs.declared.listed.KeyedSymbols.{KeyedSymbols}
use Rattle.machsyms.specs.declared.listed.Source.{Source}
use Rattle.machsyms.specs.declared.listed.SymbolRow.{SymbolRow}
use Rattle.machsyms.specs.declared.listed.Source.TheVariants.{Table, Keys}
use Rattle.machsyms.specs.declared.text.SymbolText.{SymbolText}

abbrev pub keyed_left : KeyedSymbols → List (Result (List ℕ × Nlist) Fault)
keyed_left k = symbols_by (drop k.index k.keys.now) (table_of k.table.now)

abbrev pub source_left : Source → List (Result (List ℕ × Nlist) Fault)
source_left (Table symbols) = symbols_left symbols
source_left (Keys keyed) = keyed_left keyed

-- the selected symbols that are left
abbrev pub selected_left : RequestedSymbols → List (Result (List ℕ × Nlist) Fault)
selected_left s = filter (takes s.request) (source_left s.source)

-- their objects
abbrev pub symbol_objects_left : RequestedSymbols → List (Result (List ℕ) Fault)
symbol_objects_left s = map symbol_reported (selected_left s)

-- the object of a symbol that can be read
abbrev pub symbol_row_text : SymbolRow → List ℕ
symbol_row_text row = symbol_object row.name.now row.symbol

-- the lines of the symbols that are left
abbrev pub lines_left : {A : Type 0} → SymbolLines A → List (Result (List ℕ) Fault)
lines_left l = map (reported_by (line_text l.request (setting_view l.setting.now))) (selected_left l.symbols)

-- how many more symbols begin past the end of the bytes
abbrev pub lines_past : {A : Type 0} → SymbolLines A → ℕ
lines_past l = l.past

-- the line of a symbol that can be read
abbrev pub symbol_line_text : {A : Type 0} → SymbolText A → List ℕ
symbol_line_text t = line_text t.request (setting_view t.setting.now) (t.name.now, t.symbol)
