use Rattle.mach_dyld.proofs.TrieVisits.{of_paths}
use Rattle.mach_dyld.proofs.laws.tries.visits_of_paths.Goals as goal

pub returns : goal.returns
returns g c = of_paths
