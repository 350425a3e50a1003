use Rattle.std.proofs.Common.{◌≡◌, ◌++◌, take, drop, []}
use Rattle.mach_layout.specs.Sweep.{furthest, shared_after}
use Rattle.mach_layout.proofs.sweep.report_shared.Given as goal

abbrev pub invariant-loop-range : goal.invariant-loop-range
invariant-loop-range g l = record {
  furthest_is : l.furthest ≡ furthest (take l.range-index l.sorted);
  reported : l.faults.items ++ shared_after l.rule (take l.range-index l.sorted) (drop l.range-index l.sorted)
      ≡ l.initial.faults.items ++ shared_after l.rule [] l.sorted;
}
