use Rattle.std.proofs.Common.{◌≡◌, ◌≤◌, ◌++◌, List, Result, length}
use Rattle.mach_base.specs.Fault.{Fault}
use Rattle.mach_archive.specs.ArchiveViews.{archive_of, members_left}
use Rattle.mach_archive.specs.Members.{AreMembers, MemberView}
use Rattle.machfat.proofs.MembersReported.{MembersGone}
use Rattle.machfat.proofs.archive.member.print_members.Given as goal

abbrev pub invariant-members : goal.invariant-members
invariant-members g l =
    let a = archive_of l.archive in
    (done : List (Result MemberView Fault)) × AreMembers a.bytes a.names a.begin (done ++ members_left l.answer-iterator) × (l.number ≡ length done)
    × (l.number ≤ l.left) × MembersGone done l.whole (g.O.Write.contents l.fn.out) (g.O.Write.contents l.out)
