use Rattle.goblin_mach.proofs.ImageFacts.{facts_are_held}
use Rattle.goblin_mach.proofs.facts.facts_of_image.Goals as goal

pub returns : goal.returns
returns g c = facts_are_held c.args.image.now
