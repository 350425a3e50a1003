use Rattle.mach_dyld.proofs.StreamLaws.{weak_binds_lie_lem}
use Rattle.mach_dyld.proofs.laws.streams.weak_binds_lie_in_segments.Goals as goal

pub returns : goal.returns
returns c = weak_binds_lie_lem
