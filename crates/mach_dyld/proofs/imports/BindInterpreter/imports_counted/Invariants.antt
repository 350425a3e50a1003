use Rattle.mach_dyld.proofs.BindNames.{◌≡◌, ◌≤◌, ◌+◌, ◌++◌, length, false, bind_imports_view, imports_left, reads_left}
use Rattle.mach_dyld.proofs.BindLists.{oks}
use Rattle.mach_dyld.proofs.imports.BindInterpreter.imports_counted.Given as goal

abbrev pub invariant-binds : goal.invariant-binds
invariant-binds g l = record {
  items : imports_left l.initial.left ≡ oks (bind_imports_view l.found.items) ++ imports_left l.left;
  on : l.left.stream.state.ended ≡ false;
  reads : l.steps + reads_left l.left ≡ l.initial.steps + reads_left l.initial.left;
  kept : l.initial.steps ≤ l.steps;
}

abbrev pub decreases-binds : goal.decreases-binds
decreases-binds g l = length (imports_left l.left)
