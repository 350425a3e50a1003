use Rattle.std.proofs.Common.{List, Result, subst, sym}
use Rattle.mach_archive.specs.ArchiveViews.{archive_of, members_left}
use Rattle.mach_archive.specs.Members.{MemberView}
use Rattle.mach_base.specs.Fault.{Fault}
use Rattle.goblin_mach.proofs.Items.{members_all}
use Rattle.std.specs.List.{AllByRecursion}
use Rattle.std.specs.Prelude.{IfOk}
use Rattle.mach_audit.proofs.Judgements.{both_sound}
use Rattle.mach_audit.specs.Report.{ReportsMembers}
use Rattle.mach_audit.specs.Sound.{AreLongMembers, IsSoundMember}
use Rattle.mach_audit.specs.Verdicts.{Judges, verdict_of_archive}
use Rattle.mach_audit.specs.declared.verdict.Soundness.{Soundness}
use Rattle.mach_audit.proofs.file.audit_archive.Goals as goal

pub returns-in-Ok-clause-reported : goal.returns-in-Ok-clause-reported
returns-in-Ok-clause-reported g c =
    let same = members_all (archive_of c.in-Ok.archive) (members_left c.members.result) c.members.ensures in
    rw c.in-Ok.ensures (subst (λ (ms : List (Result MemberView Fault)). IfOk c.audit_members.result (ReportsMembers c.args.limit ms)) same
    c.audit_members.ensures.reported)

pub returns-in-Ok-clause-judged : goal.returns-in-Ok-clause-judged
returns-in-Ok-clause-judged g c =
    let same = members_all (archive_of c.in-Ok.archive) (members_left c.members.result) c.members.ensures in
    rw c.in-Ok.ensures (subst (λ (ms : List (Result MemberView Fault)). IfOk c.audit_members.result (λ r. Judges (AllByRecursion IsSoundMember ms)
    (AreLongMembers c.args.limit ms) (verdict_of_archive r))) same c.audit_members.ensures.judged)

pub returns-in_ok-push-in-Err-clause-judged : goal.returns-in_ok-push-in-Err-clause-judged
returns-in_ok-push-in-Err-clause-judged g c =
    let judged = c.in_ok-audit_member-in-Err.ensures.judged in
    rw (c.in-Err.ensures, c.in_ok-push-in-Err.ensures.items, c.new-members.ensures.items) (subst (λ (v : Soundness). Judges ⊥ ⊥ v) (sym (both_sound _)) judged)
