use Rattle.std.proofs.Common.{ℕ, List, Option, length}
use Rattle.mach_audit.specs.Reported.{FaultAt, HasMet}
use Rattle.mach_audit.proofs.Goes.{Goes}
use Rattle.mach_audit.specs.Items.{faults_left}
use Rattle.mach_audit.proofs.lists.add_list.Given as goal

abbrev pub invariant-items : goal.invariant-items
invariant-items g l = (limit : ℕ) (met : List (Option FaultAt)) → HasMet limit met l.fn.tally
    → Goes limit l.fn.list met (faults_left l.fn.items) (faults_left l.items) l.index l.tally

abbrev pub decreases-items : goal.decreases-items
decreases-items g l = length (faults_left l.items)
