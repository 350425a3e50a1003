use Rattle.goblin_mach.proofs.StreamFacts.{come_of_fixups}
use Rattle.goblin_mach.proofs.facts.streams.rebases_come_of_fixups.Goals as goal

pub returns : goal.returns
returns c = come_of_fixups
