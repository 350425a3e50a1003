use Rattle.goblin_mach.proofs.SlotFacts.{section_at_is}
use Rattle.goblin_mach.proofs.facts.slots.section_at_of_image.Goals as goal

pub returns : goal.returns
returns g c = section_at_is c.args.image.now
