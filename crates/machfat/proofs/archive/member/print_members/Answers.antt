use Rattle.std.proofs.Common.{◌-◌, ◌∷◌, ◌++◌, ◌∙◌, [], ℕ, List, Result, arith, refl, sym, ap, subst}
use Rattle.std.proofs.lemmas.List.{append_assoc, length-append}
use Rattle.mach_archive.specs.ArchiveViews.{archive_of, member_read, members_left}
use Rattle.mach_archive.specs.Members.{AreMembers, MemberView}
use Rattle.mach_base.specs.Fault.{Fault}
use Rattle.machfat.proofs.Items.{gone_none}
use Rattle.machfat.proofs.MembersReported.{member_more, members_cut, members_over}
use Rattle.machfat.specs.MemberLines.{is_whole_member, member_faults, member_item, member_line}
use Rattle.machfat.proofs.archive.member.print_members.Goals as goal

pub members-init : goal.members-init
members-init g c =
    let a = archive_of c.args.archive.now in (
      [],
      subst (λ it. AreMembers a.bytes a.names a.begin (members_left it)) (sym c.into_iter-answer-iterator.ensures.into_iter_gives)
          c.members-answer-items.ensures,
      refl,
      omega arith,
      gone_none member_faults member_line is_whole_member (g.O.Write.contents c.args.out.now),
    )

pub members-preserved : goal.members-preserved
members-preserved g c =
    let a = archive_of c.args.archive.now in
    let before = c.members.invariant in
    let item = member_read c.in-Some.answer in
    let rest = members_left c.next.new.self in
    let reported = c.in_ok-whole.ensures in (
      before.0 ++ item ∷ [],
      subst (λ (items : List (Result MemberView Fault)). AreMembers a.bytes a.names a.begin items)
          (ap (λ left. before.0 ++ left) c.in-Some.ensures.steps ∙ sym (append_assoc before.0 (item ∷ []) rest)) before.1,
      omega (arith, before.2, length-append before.0 (item ∷ [])),
      omega (arith, before.3, c.if-number-left.false),
      member_more before.0 item reported.0 c.members.whole c.in_ok-whole.field-0 _ _ _ before.4 (reported.1 ∙ ap (λ number. member_item number item) before.2)
          reported.2 reported.3,
    )

pub returns-then-number-left : goal.returns-then-number-left
returns-then-number-left g c =
    let a = archive_of c.args.archive.now in
    let before = c.members.invariant in
    let item = member_read c.in-Some.answer in
    let rest = members_left c.next.new.self in
    members_cut a c.args.left before.0 item rest c.members.whole _ _ _ before.4
    (subst (λ (items : List (Result MemberView Fault)). AreMembers a.bytes a.names a.begin items) (ap (λ left. before.0 ++ left) c.in-Some.ensures.steps)
    before.1)
    (omega (arith, before.2, c.if-number-left.true)) (refl, refl, refl)

pub returns : goal.returns
returns g c =
    let before = c.members.invariant in
    members_over (archive_of c.args.archive.now) c.args.left before.0 (members_left c.members.answer-iterator) c.members.whole _ _ _ before.4 before.1
    c.in-None.ensures.steps.0 (omega (arith, before.2, before.3))
    (ap (λ (n : ℕ). c.args.left - n) before.2, refl, refl)
