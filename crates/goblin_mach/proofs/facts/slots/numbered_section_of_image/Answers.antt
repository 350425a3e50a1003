use Rattle.goblin_mach.proofs.SlotFacts.{section_of_is}
use Rattle.goblin_mach.proofs.facts.slots.numbered_section_of_image.Goals as goal

pub returns : goal.returns
returns g c = section_of_is c.args.image.now
