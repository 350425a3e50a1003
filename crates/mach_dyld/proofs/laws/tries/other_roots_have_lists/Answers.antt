use Rattle.mach_dyld.proofs.TrieFaults.{list_without_fault}
use Rattle.mach_dyld.proofs.laws.tries.other_roots_have_lists.Goals as goal

pub returns : goal.returns
returns c = list_without_fault
