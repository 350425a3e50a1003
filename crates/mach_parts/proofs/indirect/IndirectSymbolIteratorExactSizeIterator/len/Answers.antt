use Rattle.std.proofs.Common.{◌∙◌, sym}
use Rattle.mach_base.proofs.ItemLists.{length-items_from}
use Rattle.mach_parts.specs.IndirectSymbols.{indirect_symbol_at}
use Rattle.mach_parts.specs.SlotViews.{indirect_table_of}
use Rattle.mach_parts.proofs.indirect.IndirectSymbolIteratorExactSizeIterator.len.Goals as goal

pub returns-clause-value : goal.returns-clause-value
returns-clause-value c =
    let it = c.args.self.now in
    c.saturating_sub.ensures ∙ sym (length-items_from (indirect_symbol_at (indirect_table_of it.table)) it.next_item _)
