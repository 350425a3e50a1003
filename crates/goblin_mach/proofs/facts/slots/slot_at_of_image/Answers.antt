use Rattle.goblin_mach.proofs.SlotFacts.{slot_at_is}
use Rattle.goblin_mach.proofs.facts.slots.slot_at_of_image.Goals as goal

pub returns : goal.returns
returns g c = slot_at_is c.args.image.now
