use Rattle.goblin_mach.proofs.ImageFacts.{chained_fixups_are}
use Rattle.goblin_mach.proofs.facts.chained_fixups_of_image.Goals as goal

pub returns : goal.returns
returns g c = chained_fixups_are c.args.image.now
