use Rattle.mach_dyld.proofs.LookUpFollows.{within_nodes}
use Rattle.mach_dyld.proofs.laws.tries.look_up_visits_within_nodes.Goals as goal

pub returns : goal.returns
returns c = within_nodes
