use Rattle.goblin_mach.proofs.ImageFacts.{fixups_are}
use Rattle.goblin_mach.proofs.facts.fixups_of_image.Goals as goal

pub returns : goal.returns
returns g c = fixups_are c.args.image.now
