use Rattle.std.proofs.Common.{◌≤◌, ◌+◌}
use Rattle.mach_dyld.specs.Walks.{work_left, nodes_left}
use Rattle.tests_callers.proofs.tests.dyld.go_over.Given as goal

abbrev pub invariant-exports : goal.invariant-exports
invariant-exports l = l.steps + nodes_left l.walk ≤ l.fn.steps + nodes_left l.fn.walk

abbrev pub decreases-exports : goal.decreases-exports
decreases-exports l = work_left l.walk
