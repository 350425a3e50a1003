-- The slot at an address.
use Rattle.std.specs.Prelude.{ℕ, ◌-◌, ◌/◌, ◌&&◌, Bool, List, Option, Some, None, Result, Ok, find, nat_lt, if◌then◌else◌}
use Rattle.std.specs.Option.{is_some}
use Rattle.mach_base.specs.Answer.{◌>>=◌}
use Rattle.mach_base.specs.Fault.{Fault}
use Rattle.mach_parts.specs.SectionRecord.{holds_address, readable_sections}
use Rattle.mach_parts.specs.Segment.{SegmentView}
use Rattle.mach_parts.specs.declared.segment.numbered.NumberedSection.{NumberedSection}
use Rattle.mach_parts.specs.SlotSections.{slot_kind, run_of}
use Rattle.mach_parts.specs.Slots.{SlotTables, Slot, slot_entry, slot_of_entry}
use Rattle.mach_parts.specs.declared.slots.kind.SlotRun.{SlotRun}

-- whether a section has slots and holds an address
abbrev pub holds_slots_at : ℕ → NumberedSection → Bool
holds_slots_at a n = is_some (slot_kind n.section.flags) && holds_address a n

-- the slot that holds an address at or after the first slot, if it is a whole one
abbrev pub slot_in_run : SlotTables → ℕ → SlotRun → Result (Option Slot) Fault
slot_in_run t a r =
    let j = (a - r.address) / r.len in
    if nat_lt j r.count then slot_entry t r j >>= (λ e. slot_of_entry t r e >>= (λ slot. Ok (Some slot))) else Ok None

abbrev pub slot_in_run_if_any : SlotTables → ℕ → Option SlotRun → Result (Option Slot) Fault
slot_in_run_if_any t a None = Ok None
slot_in_run_if_any t a (Some r) = slot_in_run t a r

-- the slot at the address, in a section that holds the address
abbrev pub slot_in_section : SlotTables → ℕ → Option NumberedSection → Result (Option Slot) Fault
slot_in_section t a None = Ok None
slot_in_section t a (Some n) = run_of t.container n >>= slot_in_run_if_any t a

-- the slot at the address, in the first section that has slots and holds the address
abbrev pub slot_of_address : SlotTables → List SegmentView → ℕ → Result (Option Slot) Fault
slot_of_address t ss a = slot_in_section t a (find (holds_slots_at a) (readable_sections ss))
