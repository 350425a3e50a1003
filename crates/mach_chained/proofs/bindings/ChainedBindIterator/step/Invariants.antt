use Rattle.std.proofs.Common.{◌≡◌, ◌≤◌, ◌+◌, false, length}
use Rattle.mach_chained.specs.FixupsLeft.{fixups_left}
use Rattle.mach_chained.specs.BindingViews.{chained_bindings_left, pointers_left}
use Rattle.mach_chained.proofs.bindings.ChainedBindIterator.step.Given as goal

abbrev pub invariant-fixups : goal.invariant-fixups
invariant-fixups l = record {
  items : chained_bindings_left l.initial.self ≡ chained_bindings_left l.self;
  on : l.self.ended ≡ false;
  reads : l.steps + pointers_left l.self ≡ l.initial.steps + pointers_left l.initial.self;
  kept : l.initial.steps ≤ l.steps;
}

abbrev pub decreases-fixups : goal.decreases-fixups
decreases-fixups l = length (fixups_left l.self.fixups)
