use Rattle.mach_dyld.proofs.OneReading.{one_next}
use Rattle.mach_dyld.proofs.laws.tries.one_next_node.Goals as goal

pub returns : goal.returns
returns c = λ t root. one_next {t = t} {root = root}
