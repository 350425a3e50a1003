use Rattle.std.proofs.Common.{subst}
use Rattle.std.specs.Iterator.{YieldsFirstBy}
use Rattle.mach_parts.specs.SlotsLeft.{slots_left, symbol_slot_read}
use Rattle.mach_parts.specs.declared.slots.SlotIterator.{SlotIterator}
use Rattle.mach_parts.proofs.slots.SlotIterator.next_item.Goals as goal

pub returns-in-None : goal.returns-in-None
returns-in-None c =
    subst (λ (it : SlotIterator). YieldsFirstBy symbol_slot_read slots_left it c.next_of_later.result c.next_of_later.new.self)
    c.in-None.ensures.none c.next_of_later.ensures
