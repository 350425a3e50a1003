use Rattle.std.proofs.Common.{◌≡◌, drop}
use Rattle.mach_audit.specs.Findings.{findings_each, member_findings}
use Rattle.mach_audit.proofs.FindingsAdded.{LeavesToAdd}
use Rattle.mach_audit.proofs.findings.add_members.Given as goal

abbrev pub invariant-members : goal.invariant-members
invariant-members g l =
    LeavesToAdd l.fn.out.items l.out.items (findings_each (member_findings l.place) l.member-index (drop l.member-index l.members))
    (findings_each (member_findings l.place) 0 l.fn.members)
    × (l.number ≡ l.member-index)
