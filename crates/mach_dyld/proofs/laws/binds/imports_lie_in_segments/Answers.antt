use Rattle.mach_dyld.proofs.BindAddresses.{list_lies}
use Rattle.mach_dyld.proofs.laws.binds.imports_lie_in_segments.Goals as goal

pub returns : goal.returns
returns c = list_lies
