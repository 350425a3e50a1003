use Rattle.goblin_mach.proofs.SaidFacts.{source_version_is}
use Rattle.goblin_mach.proofs.facts.said.source_version_of_image.Goals as goal

pub returns : goal.returns
returns g c = source_version_is c.args.image.now
