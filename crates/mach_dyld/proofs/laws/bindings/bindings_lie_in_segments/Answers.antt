use Rattle.mach_dyld.proofs.BindingLaws.{bindings_lie}
use Rattle.mach_dyld.proofs.laws.bindings.bindings_lie_in_segments.Goals as goal

pub returns : goal.returns
returns c = bindings_lie
