-- What contracts see of a special slot that seals something or has a fault.
use Rattle.mach_signature.specs.Special.{SlotView}
use Rattle.mach_signature.specs.declared.special.SpecialSlot.{SpecialSlot}

abbrev pub special_slot_view : SpecialSlot → SlotView
special_slot_view s = record { number = s.number; hash = s.hash.now; state = s.state }
