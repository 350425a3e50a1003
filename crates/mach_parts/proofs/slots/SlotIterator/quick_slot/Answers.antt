use Rattle.std.proofs.Common.{◌∷◌, ◌∙◌, Result, ap, sym}
use Rattle.mach_base.specs.Fault.{Fault}
use Rattle.mach_parts.proofs.ReadyLists.{one_passed}
use Rattle.mach_parts.specs.ReadySlots.{ready_left}
use Rattle.mach_parts.specs.Slots.{Slot, slot_of_entry}
use Rattle.mach_parts.specs.SlotViews.{held_tables_of}
use Rattle.mach_parts.specs.declared.slot.SlotEntry.{SlotEntry}
use Rattle.mach_parts.proofs.slots.SlotIterator.quick_slot.Goals as goal

pub returns-clause-some : goal.returns-clause-some
returns-clause-some c =
    let t = held_tables_of c.args.self.now.source in
    let s = c.args.self.now.ready in
    let n = c.pass.new.self in
    let known = c.pass.ensures in
    one_passed t s n known.count known.entries known.address known.index known.run
    ∙ ap (λ (slot : Result Slot Fault). slot ∷ ready_left t n)
    (ap (λ (e : SlotEntry). slot_of_entry t s.run e) (sym c.in_ok-entry.ensures.entry) ∙ c.in_ok-slot.ensures)
