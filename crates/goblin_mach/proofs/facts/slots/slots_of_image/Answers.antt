use Rattle.goblin_mach.proofs.SlotFacts.{slots_are}
use Rattle.goblin_mach.proofs.facts.slots.slots_of_image.Goals as goal

pub returns : goal.returns
returns g c = slots_are c.args.image.now
