use Rattle.std.proofs.Common.{◌∙◌, sym}
use Rattle.mach_parts.specs.Symbols.{symbol_at}
use Rattle.mach_parts.specs.SymbolViews.{table_view}
use Rattle.mach_base.proofs.ItemLists.{length-items_from}
use Rattle.mach_parts.proofs.symbols.iterator.SymbolIteratorExactSizeIterator.len.Goals as goal

pub returns-clause-value : goal.returns-clause-value
returns-clause-value c =
    let i = c.args.self.now in
    c.saturating_sub.ensures ∙ sym (length-items_from (symbol_at (table_view i.source.table)) i.index _)
