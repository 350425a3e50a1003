use Rattle.goblin_mach.proofs.ImageFacts.{name_is}
use Rattle.goblin_mach.proofs.facts.name_of_image.Goals as goal

pub returns : goal.returns
returns g c = name_is c.args.image.now
