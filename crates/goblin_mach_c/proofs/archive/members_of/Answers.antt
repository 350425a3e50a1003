use Rattle.std.proofs.Common.{ap, sym, ◌∙◌, Ok}
use Rattle.mach_base.specs.Answer.{◌>>=◌}
use Rattle.mach_archive.specs.ArchiveViews.{archive_of, members_left}
use Rattle.mach_archive.specs.Archives.{ArchiveView}
use Rattle.goblin_mach.specs.Items.{members_within}
use Rattle.goblin_mach.proofs.Items.{members_all}
use Rattle.goblin_mach_c.proofs.archive.members_of.Goals as goal

pub returns : goal.returns
returns c =
    let archive = c.in_ok-parse.field-0 in
    ap (λ r. r >>= (λ (a : ArchiveView). Ok (members_within a))) c.in_ok-parse.ensures
    ∙ sym (ap Ok (members_all (archive_of archive) (members_left c.members.result) c.members.ensures))
