use Rattle.std.proofs.Common.{List, Result, option_map, subst}
use Rattle.mach_base.specs.Answer.{Reads}
use Rattle.mach_base.specs.Fault.{Fault}
use Rattle.mach_archive.specs.ArchiveViews.{archive_of, member_view, members_left}
use Rattle.mach_archive.specs.Members.{MemberView}
use Rattle.goblin_mach.proofs.Items.{members_all}
use Rattle.goblin_mach_c.specs.ArchiveFinds.{first_of_name}
use Rattle.goblin_mach_c.proofs.archive_find.first_of.Goals as goal

pub returns : goal.returns
returns c =
    subst (λ (items : List (Result MemberView Fault)). Reads (option_map member_view) c.first_of_name.result (first_of_name c.args.name.now items))
    (members_all (archive_of c.args.archive.now) (members_left c.members.result) c.members.ensures) c.first_of_name.ensures
