use Rattle.mach_dyld.proofs.BindNames.{◌≡◌, ◌≤◌, ◌+◌, length, items_left, opcodes_left}
use Rattle.mach_dyld.specs.BindingFaults.{has_fault}
use Rattle.mach_dyld.proofs.imports.stream.Stream.has_fault_counted.Given as goal

abbrev pub invariant-instructions : goal.invariant-instructions
invariant-instructions g l = record {
  fault : has_fault (items_left g.M.BindRules.rules l.fn.self) ≡ has_fault (items_left g.M.BindRules.rules l.stream);
  reads : l.steps + opcodes_left g.M.BindRules.rules l.stream ≡ l.initial.steps + opcodes_left g.M.BindRules.rules l.fn.self;
  kept : l.initial.steps ≤ l.steps;
}

abbrev pub decreases-instructions : goal.decreases-instructions
decreases-instructions g l = length (items_left g.M.BindRules.rules l.stream)
