use Rattle.mach_chained.proofs.FixupCounts.{fixups_are_few}
use Rattle.mach_chained.proofs.laws.fixups_are_few.Goals as goal

pub returns : goal.returns
returns c = fixups_are_few
