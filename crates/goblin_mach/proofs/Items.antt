-- The members of an archive, as the items of a file have them.
use Rattle.std.proofs.Common.{◌≡◌, ◌-◌, List, length, Result, arith}
use Rattle.mach_base.specs.Fault.{Fault}
use Rattle.mach_archive.specs.Archives.{ArchiveView}
use Rattle.mach_archive.specs.Members.{MemberView, AreMembers}
use Rattle.mach_archive.proofs.MemberLaws.{one_list}
use Rattle.mach_archive.proofs.MembersRead.{members_are}
use Rattle.goblin_mach.specs.Items.{members_within}

-- the members of an archive are one list
pub members_all : (a : ArchiveView) (xs : List (Result MemberView Fault)) → AreMembers a.bytes a.names a.begin xs → xs ≡ members_within a
members_all a xs are =
    one_list a.bytes a.names a.begin xs (members_within a) are (members_are a.bytes a.names (length a.bytes - a.begin) a.begin (omega arith))
