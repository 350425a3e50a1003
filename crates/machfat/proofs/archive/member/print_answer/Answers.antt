use Rattle.std.proofs.Common.{ap, sym}
use Rattle.std.proofs.lemmas.Result.{IfOk-weaker}
use Rattle.mach_archive.specs.ArchiveViews.{member_read}
use Rattle.machfat.specs.MemberLines.{member_item, no_more_members}
use Rattle.machfat.proofs.archive.member.print_answer.Goals as goal

pub returns-in-Err : goal.returns-in-Err
returns-in-Err g c =
    IfOk-weaker c.print_refused.result _ _
    (λ whole said. (no_more_members c.in-Err.error, sym (ap (λ answer. member_item c.args.number (member_read answer)) c.in-Err.is), said.0, said.1))
    c.print_refused.ensures
