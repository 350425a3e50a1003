use Rattle.mach_archive.specs.ArchiveViews.{members_left}
use Rattle.mach_audit.proofs.Members.{GoesOver}
use Rattle.mach_audit.proofs.file.audit_members.Given as goal

abbrev pub invariant-members : goal.invariant-members
invariant-members g l = GoesOver l.fn.limit (members_left l.fn.members) (members_left l.member-iterator) l.reports.items
