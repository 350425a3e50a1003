-- What is left of an iterator over slots.
use Rattle.std.specs.Prelude.{ℕ, ◌-◌, List, [], ◌++◌, Option, Some, None, Result, flat_map}
use Rattle.mach_base.specs.declared.error.Error.{Error}
use Rattle.mach_base.specs.Fault.{Fault}
use Rattle.mach_base.specs.Items.{read_as}
use Rattle.mach_parts.specs.NumberedLeft.{numbered_left}
use Rattle.mach_parts.specs.ReadySlots.{ready_left}
use Rattle.mach_parts.specs.Slots.{SlotTables, Slot, slots_from, section_slots}
use Rattle.mach_parts.specs.SlotViews.{held_tables_of, slot_view}
use Rattle.mach_parts.specs.declared.slots.kind.SlotRun.{SlotRun}
use Rattle.mach_parts.specs.declared.slot.SymbolSlot.{SymbolSlot}
use Rattle.mach_parts.specs.declared.slots.SlotIterator.{SlotIterator}

-- a slot, as it was returned
abbrev pub symbol_slot_read : Result SymbolSlot Error → Result Slot Fault
symbol_slot_read item = read_as slot_view item

-- the slots of the current section from number j on, if there is one
abbrev pub open_slots : SlotTables → Option SlotRun → ℕ → List (Result Slot Fault)
open_slots t None j = []
open_slots t (Some r) j = slots_from t r (r.count - j) j

abbrev pub open_slots_left : SlotIterator → List (Result Slot Fault)
open_slots_left it = open_slots (held_tables_of it.source) it.run it.next_slot

-- the slots of the current section: first those that are known to have entries
abbrev pub section_left : SlotIterator → List (Result Slot Fault)
section_left it = ready_left (held_tables_of it.source) it.ready ++ open_slots_left it

-- these, followed by the slots of the remaining sections
abbrev pub slots_left : SlotIterator → List (Result Slot Fault)
slots_left it = section_left it ++ flat_map (section_slots (held_tables_of it.source)) (numbered_left it.sections)
