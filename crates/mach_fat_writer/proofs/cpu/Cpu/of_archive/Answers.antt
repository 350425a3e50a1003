use Rattle.std.proofs.Common.{◌≡◌, ◌-◌, length, Result, sym, ap, subst, ◌∙◌, arith}
use Rattle.mach_base.specs.Answer.{Reads, ◌>>=◌}
use Rattle.mach_base.specs.Fault.{Fault}
use Rattle.mach_archive.specs.ArchiveViews.{archive_of, members_left}
use Rattle.mach_archive.proofs.MemberLaws.{one_list}
use Rattle.mach_archive.proofs.MembersRead.{members_are}
use Rattle.mach_fat_writer.specs.CreatedEntries.{CpuView, cpu_view, cpu_of_members, cpu_of_archive, members_of_archive}
use Rattle.mach_fat_writer.proofs.cpu.Cpu.of_archive.Goals as goal

pub returns : goal.returns
returns c =
    let a = archive_of c.in_ok-archive.archive in
    let same : members_left c.members.result ≡ members_of_archive a =
    one_list a.bytes a.names a.begin (members_left c.members.result) (members_of_archive a) c.members.ensures
    (members_are a.bytes a.names (length a.bytes - a.begin) a.begin (omega arith))
    in
    let whole : cpu_of_archive c.args.bytes.now ≡ cpu_of_members (members_of_archive a) =
    ap (λ r. r >>= (λ b. cpu_of_members (members_of_archive b))) c.in_ok-archive.ensures
    in
    subst (λ (there : Result CpuView Fault). Reads cpu_view c.of_members.result there) (ap cpu_of_members same ∙ sym whole) c.of_members.ensures
