use Rattle.goblin_mach.proofs.ImageFacts.{relocations_are}
use Rattle.goblin_mach.proofs.facts.relocations_of_image.Goals as goal

pub returns : goal.returns
returns g c = relocations_are c.args.image.now
