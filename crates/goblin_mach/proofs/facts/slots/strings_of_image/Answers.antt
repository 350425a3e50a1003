use Rattle.goblin_mach.proofs.SlotFacts.{strings_are}
use Rattle.goblin_mach.proofs.facts.slots.strings_of_image.Goals as goal

pub returns : goal.returns
returns g c = strings_are c.args.image.now
