use Rattle.goblin_mach.proofs.SlotFacts.{indirect_symbols_are}
use Rattle.goblin_mach.proofs.facts.slots.indirect_symbols_of_image.Goals as goal

pub returns : goal.returns
returns g c = indirect_symbols_are c.args.image.now
