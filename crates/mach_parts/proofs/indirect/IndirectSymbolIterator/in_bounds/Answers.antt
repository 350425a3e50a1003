use Rattle.std.proofs.Common.{◌-◌, ◌∙◌, ap, length}
use Rattle.mach_base.specs.Items.{items_from, records_in_bounds}
use Rattle.mach_base.proofs.InBounds.{in_bounds-items_from}
use Rattle.mach_parts.specs.IndirectSymbols.{indirect_symbol_at}
use Rattle.mach_parts.specs.SlotViews.{indirect_table_of}
use Rattle.mach_parts.proofs.PastTheEnd.{indirect_past}
use Rattle.mach_parts.proofs.indirect.IndirectSymbolIterator.in_bounds.Goals as goal

pub returns : goal.returns
returns c =
    let it = c.args.self.now in
    let t = indirect_table_of it.table in
    ap (λ table. items_from (indirect_symbol_at table) it.next_item (table.count - it.next_item)) c.in_bounds.ensures
    ∙ in_bounds-items_from (indirect_symbol_at t) it.next_item t.count (records_in_bounds (length t.bytes) t.start 4) (indirect_past t)
