use Rattle.std.proofs.Common.{◌≡◌, drop}
use Rattle.mach_audit.specs.Findings.{findings_each, entry_findings}
use Rattle.mach_audit.proofs.FindingsAdded.{LeavesToAdd}
use Rattle.mach_audit.proofs.findings.add_entries.Given as goal

abbrev pub invariant-entries : goal.invariant-entries
invariant-entries g l =
    LeavesToAdd l.fn.out.items l.out.items (findings_each entry_findings l.entry-index (drop l.entry-index l.entries))
    (findings_each entry_findings 0 l.fn.entries)
    × (l.number ≡ l.entry-index)
