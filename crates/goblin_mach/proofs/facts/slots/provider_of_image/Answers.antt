use Rattle.goblin_mach.proofs.SlotFacts.{provider_is}
use Rattle.goblin_mach.proofs.facts.slots.provider_of_image.Goals as goal

pub returns : goal.returns
returns g c = provider_is c.args.image.now
