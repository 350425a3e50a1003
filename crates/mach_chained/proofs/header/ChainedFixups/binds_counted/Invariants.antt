use Rattle.std.proofs.Common.{◌≡◌, ◌≤◌, ◌+◌, ◌++◌, length}
use Rattle.mach_chained.specs.BindingViews.{bindings_view, chained_bindings_left, pointers_left}
use Rattle.mach_chained.proofs.BindingLists.{oks}
use Rattle.mach_chained.proofs.header.ChainedFixups.binds_counted.Given as goal

abbrev pub invariant-binds : goal.invariant-binds
invariant-binds g l = record {
  items : chained_bindings_left l.initial.left ≡ oks (bindings_view l.found.items) ++ chained_bindings_left l.left;
  reads : l.steps + pointers_left l.left ≡ l.initial.steps + pointers_left l.initial.left;
  kept : l.initial.steps ≤ l.steps;
}

abbrev pub decreases-binds : goal.decreases-binds
decreases-binds g l = length (chained_bindings_left l.left)
