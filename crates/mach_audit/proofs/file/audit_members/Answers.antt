use Rattle.std.proofs.Common.{true, false, ap, arith, length}
use Rattle.mach_archive.specs.ArchiveViews.{member_read, members_left}
use Rattle.mach_audit.proofs.Members.{members_judged, members_reported, none_over, one_over}
use Rattle.mach_audit.specs.declared.report.ArchiveReport.{ArchiveReport}
use Rattle.mach_audit.proofs.file.audit_members.Goals as goal

pub members-init : goal.members-init
members-init g c =
    rw c.new-reports.ensures.items (none_over c.args.limit (members_left c.args.members) (members_left c.into_iter-member-iterator.result)
    (ap members_left c.into_iter-member-iterator.ensures.into_iter_gives))

pub members-preserved : goal.members-preserved
members-preserved g c =
    let reports = c.members.reports.items in
    let made = c.in_ok-audit_member.ensures in
    rw c.in_ok-push.ensures.items (one_over c.args.limit (members_left c.args.members) (members_left c.members.member-iterator)
    (members_left c.next.new.self) (member_read c.in-Some.member) reports c.in_ok-audit_member.field-0 c.members.invariant c.in-Some.ensures.steps
    (omega (arith, c.if-len-limit.false, c.len.ensures)) (made.reported, made.judged))

pub returns-then-len-limit-clause-reported : goal.returns-then-len-limit-clause-reported
returns-then-len-limit-clause-reported g c =
    let r : ArchiveReport g.row.A.Denot = record { members = c.members.reports; cut = true } in
    members_reported c.args.limit (members_left c.args.members) (members_left c.members.member-iterator) r c.members.invariant
    (omega (arith, c.if-len-limit.true, c.len.ensures), omega (arith, ap length c.in-Some.ensures.steps))

pub returns-then-len-limit-clause-judged : goal.returns-then-len-limit-clause-judged
returns-then-len-limit-clause-judged g c =
    let r : ArchiveReport g.row.A.Denot = record { members = c.members.reports; cut = true } in
    members_judged c.args.limit (members_left c.args.members) (members_left c.members.member-iterator) r c.members.invariant
    (omega (arith, c.if-len-limit.true, c.len.ensures), omega (arith, ap length c.in-Some.ensures.steps))

pub returns-clause-reported : goal.returns-clause-reported
returns-clause-reported g c =
    let r : ArchiveReport g.row.A.Denot = record { members = c.members.reports; cut = false } in
    members_reported c.args.limit (members_left c.args.members) (members_left c.members.member-iterator) r c.members.invariant c.in-None.ensures.steps.0

pub returns-clause-judged : goal.returns-clause-judged
returns-clause-judged g c =
    let r : ArchiveReport g.row.A.Denot = record { members = c.members.reports; cut = false } in
    members_judged c.args.limit (members_left c.args.members) (members_left c.members.member-iterator) r c.members.invariant c.in-None.ensures.steps.0
