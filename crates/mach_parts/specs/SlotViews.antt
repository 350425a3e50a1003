-- What contracts see of indirect symbols and slots.
use Rattle.std.specs.Prelude.{◌-◌, List, option_map, Result}
use Rattle.mach_base.specs.declared.error.Error.{Error}
use Rattle.mach_base.specs.Fault.{Fault}
use Rattle.mach_base.specs.Items.{items_from, read_as}
use Rattle.mach_parts.specs.SymbolViews.{copied_table, table_of}
use Rattle.mach_parts.specs.IndirectSymbols.{IndirectTable, indirect_symbol_at}
use Rattle.mach_parts.specs.Slots.{SlotTables, SlotOwner, named_slot, local_slot, absolute_slot, local_absolute_slot, Slot}
use Rattle.mach_parts.specs.declared.indirect.IndirectSymbol.{IndirectSymbol}
use Rattle.mach_parts.specs.declared.indirect.IndirectSymbols.{IndirectSymbols}
use Rattle.mach_parts.specs.declared.indirect.IndirectSymbolIterator.{IndirectSymbolIterator}
use Rattle.mach_parts.specs.declared.slot.SlotSymbol.{SlotSymbol}
use Rattle.mach_parts.specs.declared.slot.SlotSymbol.TheVariants.{Named, Local, Absolute, LocalAbsolute}
use Rattle.mach_parts.specs.declared.slot.SymbolSlot.{SymbolSlot}
use Rattle.mach_parts.specs.declared.slots.source.HeldSource.{HeldSource}
use Rattle.mach_parts.specs.declared.slots.source.SlotSource.{SlotSource}

abbrev pub indirect_table_of : IndirectSymbols → IndirectTable
indirect_table_of t = record { bytes = t.bytes.now; start = t.start; count = t.count; le = t.le }

-- an entry, as it was returned
abbrev pub indirect_read : Result IndirectSymbol Error → Result IndirectSymbol Fault
indirect_read item = read_as (λ s. s) item

-- the remaining entries of an iterator
abbrev pub indirect_left : IndirectSymbolIterator → List (Result IndirectSymbol Fault)
indirect_left it = items_from (indirect_symbol_at (indirect_table_of it.table)) it.next_item ((indirect_table_of it.table).count - it.next_item)

abbrev pub slot_tables_of : SlotSource → SlotTables
slot_tables_of s =
    record { indirect = indirect_table_of s.indirect; symbols = option_map (λ symbols. table_of symbols.now) s.symbols; container = s.ctx.container }

-- the tables of a source that holds its symbols by value
abbrev pub held_tables_of : HeldSource → SlotTables
held_tables_of s =
    record { indirect = indirect_table_of s.indirect; symbols = option_map copied_table s.symbols; container = s.ctx.container }

abbrev pub slot_symbol_view : SlotSymbol → SlotOwner
slot_symbol_view (Named index name) = named_slot index name.now
slot_symbol_view Local = local_slot
slot_symbol_view Absolute = absolute_slot
slot_symbol_view LocalAbsolute = local_absolute_slot

abbrev pub slot_view : SymbolSlot → Slot
slot_view s =
    record {
      segment = s.segment;
      section = s.section;
      address = s.address;
      len = s.len;
      kind = s.kind;
      index = s.index;
      symbol = slot_symbol_view s.symbol;
    }
