use Rattle.goblin_mach.proofs.LookedUpFacts.{function_at_is}
use Rattle.goblin_mach.proofs.facts.looked_up.function_at_of_image.Goals as goal

pub returns : goal.returns
returns g c = function_at_is c.args.image.now
