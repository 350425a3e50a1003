use Rattle.goblin_mach.proofs.LookedUpFacts.{address_is}
use Rattle.goblin_mach.proofs.facts.looked_up.address_of_image.Goals as goal

pub returns : goal.returns
returns g c = address_is c.args.image.now
