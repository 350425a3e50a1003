use Rattle.std.proofs.Common.{◌+◌, ◌-◌, ◌∷◌, Option, Result, ap, sym, ◌∙◌}
use Rattle.mach_base.proofs.ItemLists.{read_as-Reads}
use Rattle.mach_base.specs.Fault.{Fault, fault_of}
use Rattle.mach_parts.proofs.SlotLists.{no_slots, next_slot, last_slot}
use Rattle.mach_parts.specs.SlotViews.{held_tables_of}
use Rattle.mach_parts.specs.Slots.{Slot, slots_from}
use Rattle.mach_parts.specs.SlotsLeft.{open_slots, symbol_slot_read}
use Rattle.mach_parts.specs.declared.slots.kind.SlotRun.{SlotRun}
use Rattle.mach_parts.proofs.slots.SlotIterator.take.Goals as goal

pub returns-then-self-run-clause-open : goal.returns-then-self-run-clause-open
returns-then-self-run-clause-open c =
    let it = c.args.self.now in
    ap (λ (run : Option SlotRun). open_slots (held_tables_of it.source) run it.next_slot) c.in_ok-run.was
    ∙ no_slots (held_tables_of it.source) c.in_ok-run.run' it.next_slot c.if-self-run.true

pub returns-in-Ok-clause-open : goal.returns-in-Ok-clause-open
returns-in-Ok-clause-open c =
    let it = c.args.self.now in
    let t = held_tables_of it.source in
    let r = c.in_ok-run.run' in
    ap (λ (run : Option SlotRun). open_slots t run it.next_slot) c.in_ok-run.was
    ∙ (next_slot t r it.next_slot c.in-Ok.entry c.if-self-run.false c.in-Ok.ensures
    ∙ (ap (λ (slot : Result Slot Fault). slot ∷ slots_from t r (r.count - (it.next_slot + 1)) (it.next_slot + 1))
    (sym (read_as-Reads _ c.slot.result _ c.slot.ensures))
    ∙ ap (λ (run : Option SlotRun). symbol_slot_read c.slot.result ∷ open_slots t run (it.next_slot + 1)) (sym c.in_ok-run.was)))

pub returns-in-Err-clause-open : goal.returns-in-Err-clause-open
returns-in-Err-clause-open c =
    let it = c.args.self.now in
    ap (λ (run : Option SlotRun). open_slots (held_tables_of it.source) run it.next_slot) c.in_ok-run.was
    ∙ last_slot (held_tables_of it.source) c.in_ok-run.run' it.next_slot (fault_of c.in-Err.e) c.if-self-run.false c.in-Err.ensures
