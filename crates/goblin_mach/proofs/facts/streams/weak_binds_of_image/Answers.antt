use Rattle.goblin_mach.proofs.StreamFacts.{weak_binds_are}
use Rattle.goblin_mach.proofs.facts.streams.weak_binds_of_image.Goals as goal

pub returns : goal.returns
returns g c = weak_binds_are c.args.image.now
