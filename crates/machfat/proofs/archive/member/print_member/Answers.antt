use Rattle.std.proofs.Common.{ap, ◌∙◌}
use Rattle.mach_archive.specs.ArchiveViews.{member_view}
use Rattle.mach_archive.specs.MemberNames.{member_name}
use Rattle.mach_base.proofs.ItemLists.{read_as-Reads}
use Rattle.mach_base.proofs.Written.{Appends-both}
use Rattle.mach_cli.specs.Listings.{text_answer}
use Rattle.machfat.proofs.MembersReported.{name_seen, name_whole}
use Rattle.machfat.specs.MemberLines.{a_member}
use Rattle.machfat.proofs.archive.member.print_member.Goals as goal

pub returns : goal.returns
returns g c =
    let m = member_view c.args.member in
    let name = text_answer (λ name. name.now) c.name-name.result in
    let is = name_seen c.name-name.result ∙ read_as-Reads (λ name. name.now) c.name-name.result (member_name m) c.name-name.ensures in (
      a_member c.args.number m name,
      ap (a_member c.args.number m) is,
      c.is_ok.ensures.value ∙ name_whole c.name-name.result,
      Appends-both _ _ _ _ _ c.in_ok-write.ensures.bytes c.in_ok-print_name.ensures,
    )
