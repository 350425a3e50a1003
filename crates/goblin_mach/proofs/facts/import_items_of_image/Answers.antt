use Rattle.goblin_mach.proofs.ImageFacts.{import_items_are}
use Rattle.goblin_mach.proofs.facts.import_items_of_image.Goals as goal

pub returns : goal.returns
returns g c = import_items_are c.args.image.now
