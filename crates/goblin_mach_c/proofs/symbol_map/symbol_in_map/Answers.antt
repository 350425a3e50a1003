use Rattle.std.specs.Prelude.{option_map}
use Rattle.std.proofs.Common.{ap, sym}
use Rattle.mach_parts.specs.SymbolViews.{table_of}
use Rattle.goblin_mach.specs.ImageSlots.{symbol_table_view}
use Rattle.goblin_mach_c.proofs.OrderedSymbols.{within_table}
use Rattle.goblin_mach_c.proofs.symbol_map.symbol_in_map.Goals as goal

pub returns-clause-within : goal.returns-clause-within
returns-clause-within c =
    within_table (symbol_table_view c.args.image.now) (table_of c.in_ok-table.table.now) c.nearest_in.result
    (ap (λ symbols. option_map table_of symbols) (sym c.in_ok-table.ensures.value)) _ c.in_bounds.ensures c.nearest_in.ensures.within
