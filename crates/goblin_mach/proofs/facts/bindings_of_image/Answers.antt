use Rattle.goblin_mach.proofs.ImageFacts.{bindings_are}
use Rattle.goblin_mach.proofs.facts.bindings_of_image.Goals as goal

pub returns : goal.returns
returns g c = bindings_are c.args.image.now
