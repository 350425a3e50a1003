use Rattle.goblin_mach.proofs.SlotFacts.{initializers_are}
use Rattle.goblin_mach.proofs.facts.slots.initializers_of_image.Goals as goal

pub returns : goal.returns
returns g c = initializers_are c.args.image.now
