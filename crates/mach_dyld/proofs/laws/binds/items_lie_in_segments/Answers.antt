use Rattle.mach_dyld.proofs.BindAddresses.{items_lie}
use Rattle.mach_dyld.proofs.laws.binds.items_lie_in_segments.Goals as goal

pub returns : goal.returns
returns c = items_lie
