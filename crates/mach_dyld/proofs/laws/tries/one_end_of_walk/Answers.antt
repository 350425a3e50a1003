use Rattle.mach_dyld.proofs.OneReading.{one_end}
use Rattle.mach_dyld.proofs.laws.tries.one_end_of_walk.Goals as goal

pub returns : goal.returns
returns c = λ t root. one_end {t = t} {root = root}
