use Rattle.goblin_mach.proofs.SaidFacts.{encryption_is}
use Rattle.goblin_mach.proofs.facts.said.encryption_of_image.Goals as goal

pub returns : goal.returns
returns g c = encryption_is c.args.image.now
