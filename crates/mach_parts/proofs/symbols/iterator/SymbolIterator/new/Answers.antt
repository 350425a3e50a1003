use Rattle.std.proofs.Common.{◌-◌, arith}
use Rattle.mach_parts.specs.Symbols.{symbol_at}
use Rattle.mach_parts.specs.SymbolViews.{table_view}
use Rattle.mach_base.proofs.ItemLists.{length-items_from}
use Rattle.mach_parts.proofs.symbols.iterator.SymbolIterator.new.Goals as goal

pub returns-clause-bounded : goal.returns-clause-bounded
returns-clause-bounded c =
    let t = c.args.table in
    omega (arith, c.ranges.table, length-items_from (symbol_at (table_view t)) 0 (t.nsyms - 0))
