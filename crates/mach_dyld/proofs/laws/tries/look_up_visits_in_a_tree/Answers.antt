use Rattle.mach_dyld.proofs.LookUpFollows.{within_tree}
use Rattle.mach_dyld.proofs.laws.tries.look_up_visits_in_a_tree.Goals as goal

pub returns : goal.returns
returns c = within_tree
