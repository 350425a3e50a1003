use Rattle.goblin_mach.proofs.StreamFacts.{rebases_are}
use Rattle.goblin_mach.proofs.facts.streams.rebases_of_image.Goals as goal

pub returns : goal.returns
returns g c = rebases_are c.args.image.now
