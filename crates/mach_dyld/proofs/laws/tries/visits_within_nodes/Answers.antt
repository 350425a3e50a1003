use Rattle.mach_dyld.proofs.TrieVisits.{within_nodes}
use Rattle.mach_dyld.proofs.laws.tries.visits_within_nodes.Goals as goal

pub returns : goal.returns
returns g c = within_nodes
