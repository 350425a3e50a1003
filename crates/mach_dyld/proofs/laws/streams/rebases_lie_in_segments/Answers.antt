use Rattle.mach_dyld.proofs.StreamLaws.{rebases_lie_lem}
use Rattle.mach_dyld.proofs.laws.streams.rebases_lie_in_segments.Goals as goal

pub returns : goal.returns
returns c = rebases_lie_lem
