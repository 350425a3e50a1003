use Rattle.mach_archive.proofs.MemberLaws.{one_after_another}
use Rattle.mach_archive.proofs.laws.members_occur_one_after_another.Goals as goal

pub returns : goal.returns
returns c = one_after_another
