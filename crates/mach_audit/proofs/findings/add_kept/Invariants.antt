use Rattle.std.proofs.Common.{drop, map}
use Rattle.mach_audit.specs.Findings.{found_there}
use Rattle.mach_audit.proofs.FindingsAdded.{LeavesToAdd}
use Rattle.mach_audit.proofs.findings.add_kept.Given as goal

abbrev pub invariant-faults : goal.invariant-faults
invariant-faults g l =
    let found = g.T.Kept.found in
    LeavesToAdd l.fn.out.items l.out.items (found_there l.place (map found (drop l.fault-index l.faults))) (found_there l.place (map found l.fn.faults))
