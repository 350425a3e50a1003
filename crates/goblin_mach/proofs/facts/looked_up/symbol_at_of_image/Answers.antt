use Rattle.goblin_mach.proofs.LookedUpFacts.{symbol_at_is}
use Rattle.goblin_mach.proofs.facts.looked_up.symbol_at_of_image.Goals as goal

pub returns : goal.returns
returns g c = symbol_at_is c.args.image.now
