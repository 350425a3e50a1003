use Rattle.std.proofs.Common.{◌≡◌, ◌-◌}
use Rattle.machsign.specs.SpecialLeft.{slots_yet}
use Rattle.machsign.proofs.special.SpecialSlots.take_next.Given as goal

abbrev pub invariant-slots : goal.invariant-slots
invariant-slots l = record {
  left : slots_yet l.self ≡ slots_yet l.initial.self;
  form : l.self.form ≡ l.initial.self.form;
}

abbrev pub decreases-slots : goal.decreases-slots
decreases-slots l = 11 - l.self.taken
