use Rattle.goblin_mach.proofs.StreamFacts.{no_weak_binds}
use Rattle.goblin_mach.proofs.facts.streams.no_weak_binds_without_opcodes.Goals as goal

pub returns : goal.returns
returns c = no_weak_binds
