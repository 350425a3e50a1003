use Rattle.std.proofs.Common.{sym, ap}
use Rattle.std.specs.Prelude.{option_map}
use Rattle.mach_parts.specs.SymbolViews.{table_of}
use Rattle.goblin_mach.specs.ImageSlots.{symbol_table_view}
use Rattle.goblin_mach.specs.SymbolMaps.{image_of_map}
use Rattle.goblin_mach.proofs.MappedNearest.{table_nearest}
use Rattle.goblin_mach.proofs.symbol_map.SymbolMap.symbol_in_section.Goals as goal

pub returns : goal.returns
returns g c =
    table_nearest (symbol_table_view (image_of_map c.args.self.now)) (table_of c.in_ok-table.table.now) c.args.n_sect c.args.address c.nearest_by.result
    (ap (λ symbols. option_map table_of symbols) (sym c.in_ok-table.ensures.value)) c.nearest_by.ensures
