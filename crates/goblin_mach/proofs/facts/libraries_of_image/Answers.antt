use Rattle.goblin_mach.proofs.ImageFacts.{libraries_are}
use Rattle.goblin_mach.proofs.facts.libraries_of_image.Goals as goal

pub returns : goal.returns
returns g c = libraries_are c.args.image.now
