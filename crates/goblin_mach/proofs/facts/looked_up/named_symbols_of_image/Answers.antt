use Rattle.goblin_mach.proofs.LookedUpFacts.{symbols_named_are}
use Rattle.goblin_mach.proofs.facts.looked_up.named_symbols_of_image.Goals as goal

pub returns : goal.returns
returns g c = symbols_named_are c.args.image.now
