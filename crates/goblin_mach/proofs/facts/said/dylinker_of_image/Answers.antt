use Rattle.goblin_mach.proofs.SaidFacts.{dylinker_is}
use Rattle.goblin_mach.proofs.facts.said.dylinker_of_image.Goals as goal

pub returns : goal.returns
returns g c = dylinker_is c.args.image.now
