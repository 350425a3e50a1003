use Rattle.goblin_mach.proofs.LookedUpFacts.{offset_is}
use Rattle.goblin_mach.proofs.facts.looked_up.offset_of_image.Goals as goal

pub returns : goal.returns
returns g c = offset_is c.args.image.now
