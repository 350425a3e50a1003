use Rattle.goblin_mach.proofs.LookedUpFacts.{symbol_named_is}
use Rattle.goblin_mach.proofs.facts.looked_up.named_symbol_of_image.Goals as goal

pub returns : goal.returns
returns g c = symbol_named_is c.args.image.now
