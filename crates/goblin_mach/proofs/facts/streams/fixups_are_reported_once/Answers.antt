use Rattle.goblin_mach.proofs.StreamFacts.{reported_once}
use Rattle.goblin_mach.proofs.facts.streams.fixups_are_reported_once.Goals as goal

pub returns : goal.returns
returns c = reported_once
