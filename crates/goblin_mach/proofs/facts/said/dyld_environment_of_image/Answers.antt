use Rattle.goblin_mach.proofs.SaidFacts.{dyld_environment_is}
use Rattle.goblin_mach.proofs.facts.said.dyld_environment_of_image.Goals as goal

pub returns : goal.returns
returns g c = dyld_environment_is c.args.image.now
