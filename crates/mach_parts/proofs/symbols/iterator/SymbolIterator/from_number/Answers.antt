use Rattle.std.proofs.Common.{sym}
use Rattle.mach_parts.specs.Symbols.{symbol_at}
use Rattle.mach_parts.specs.SymbolViews.{table_view}
use Rattle.mach_base.proofs.ItemLists.{drop-items}
use Rattle.mach_parts.proofs.symbols.iterator.SymbolIterator.from_number.Goals as goal

pub returns : goal.returns
returns c = sym (drop-items (symbol_at (table_view c.args.table)) c.args.table.nsyms c.args.first)
