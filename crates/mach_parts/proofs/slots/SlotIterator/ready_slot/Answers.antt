use Rattle.std.proofs.Common.{ℕ, ◌∷◌, ◌∙◌, Result, ap, sym}
use Rattle.mach_base.proofs.ItemLists.{read_as-Reads}
use Rattle.mach_base.specs.Fault.{Fault}
use Rattle.mach_parts.proofs.ReadyLists.{none_ready, one_passed}
use Rattle.mach_parts.specs.ReadySlots.{ready_left, ready_slots}
use Rattle.mach_parts.specs.Slots.{Slot, slot_of_entry}
use Rattle.mach_parts.specs.SlotViews.{held_tables_of}
use Rattle.mach_parts.specs.declared.slots.kind.SlotRun.{SlotRun}
use Rattle.mach_parts.specs.declared.slot.SlotEntry.{SlotEntry}
use Rattle.mach_parts.proofs.slots.SlotIterator.ready_slot.Goals as goal

pub returns-in_default-clause-ready : goal.returns-in_default-clause-ready
returns-in_default-clause-ready c =
    let t = held_tables_of c.args.self.now.source in
    let s = c.args.self.now.ready in
    ap (λ (many : ℕ). ready_slots t s.run many s.entries.now s.address s.index) c.in_default.ensures.none
    ∙ none_ready t s.run s.entries.now s.address s.index

pub returns-clause-ready : goal.returns-clause-ready
returns-clause-ready c =
    let t = held_tables_of c.args.self.now.source in
    let s = c.args.self.now.ready in
    let n = c.pass.new.self in
    let entry = c.in-Some.entry in
    let known = c.pass.ensures in
    one_passed t s n known.count known.entries known.address known.index known.run
    ∙ ap (λ (slot : Result Slot Fault). slot ∷ ready_left t n)
    (ap (λ (e : SlotEntry). slot_of_entry t s.run e) (sym c.in-Some.ensures.entry)
    ∙ (ap (λ (r : SlotRun). slot_of_entry t r entry) (sym known.run) ∙ sym (read_as-Reads _ c.slot.result _ c.slot.ensures)))
