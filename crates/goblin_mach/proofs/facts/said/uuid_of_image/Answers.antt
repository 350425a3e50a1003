use Rattle.goblin_mach.proofs.SaidFacts.{uuid_is}
use Rattle.goblin_mach.proofs.facts.said.uuid_of_image.Goals as goal

pub returns : goal.returns
returns g c = uuid_is c.args.image.now
