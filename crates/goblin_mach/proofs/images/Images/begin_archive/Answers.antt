use Rattle.std.proofs.Common.{◌∙◌, ◌∷◌, sym, ap, List, Result, Ok}
use Rattle.mach_base.specs.Fault.{Fault}
use Rattle.mach_archive.specs.ArchiveViews.{archive_of, members_left}
use Rattle.mach_archive.specs.Members.{MemberView}
use Rattle.goblin_mach.specs.Items.{ItemView, item_at, items_of_members, member_items, no_member}
use Rattle.goblin_mach.proofs.Items.{members_all}
use Rattle.goblin_mach.proofs.images.Images.begin_archive.Goals as goal

pub returns-in-Some-clause-given : goal.returns-in-Some-clause-given
returns-in-Some-clause-given c =
    let all = members_all (archive_of c.args.archive) (members_left c.members-members.result) c.members-members.ensures in
    let left = member_items c.args.place (members_left c.next-first.new.self) in
    ap (items_of_members c.args.place) (sym all ∙ c.in-Some.ensures.steps) ∙ ap (λ (item : ItemView). item ∷ left) (sym c.member_item.ensures)

pub returns-in-None-clause-given : goal.returns-in-None-clause-given
returns-in-None-clause-given c =
    let all = members_all (archive_of c.args.archive) (members_left c.members-members.result) c.members-members.ensures in
    let steps = c.in-None.ensures.steps in
    ap (items_of_members c.args.place) (sym all ∙ steps.0)
    ∙ ap (λ (left : List (Result MemberView Fault)). item_at c.args.place (Ok no_member) ∷ member_items c.args.place left) (sym steps.1)
