-- Slots that are known to have entries, as an iterator holds them. Callers do not need
-- this: the contract of `new` says that the iterator's items are those of the definitions.
use Rattle.std.specs.Prelude.{ℕ, zero, suc, ◌+◌, ◌/◌, ◌%◌, ◌^◌, List, [], ◌∷◌, drop, length, Result}
use Rattle.mach_base.specs.Fault.{Fault}
use Rattle.mach_base.specs.Number.{number}
use Rattle.mach_parts.specs.IndirectSymbols.{IndirectTable, indirect_symbol}
use Rattle.mach_parts.specs.Slots.{SlotTables, Slot, slot_of_entry}
use Rattle.mach_parts.specs.declared.slots.kind.SlotRun.{SlotRun}
use Rattle.mach_parts.specs.declared.slots.ready.ReadySlots.{ReadySlots}
use Rattle.mach_parts.specs.declared.slot.SlotEntry.{SlotEntry}

-- the entry with which these bytes begin, for the slot at an address
abbrev pub ready_entry : IndirectTable → (entries : List ℕ) (address index : ℕ) → SlotEntry
ready_entry table entries address index = record { address = address; index = index; says = indirect_symbol (number table.le 4 entries) }

-- `many` slots, one after another, whose entries are at the start of these bytes
unfoldable pub ready_slots : SlotTables → SlotRun → (many : ℕ) (entries : List ℕ) (address index : ℕ) → List (Result Slot Fault)
ready_slots t r zero entries address index = []
ready_slots t r (suc many) entries address index =
    slot_of_entry t r (ready_entry t.indirect entries address index)
    ∷ ready_slots t r many (drop 4 entries) ((address + r.len) % 2 ^ 64) ((index + 1) % 2 ^ 32)

-- how many are left
abbrev pub ready_count : ReadySlots → ℕ
ready_count s = length s.entries.now / 4

-- the remaining slots
abbrev pub ready_left : SlotTables → ReadySlots → List (Result Slot Fault)
ready_left t s = ready_slots t s.run (ready_count s) s.entries.now s.address s.index
