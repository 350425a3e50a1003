use Rattle.goblin_mach.proofs.SlotFacts.{section_data_is}
use Rattle.goblin_mach.proofs.facts.slots.section_data_of_image.Goals as goal

pub returns : goal.returns
returns g c = section_data_is c.args.image.now
