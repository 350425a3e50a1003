use Rattle.goblin_mach.proofs.ImageFacts.{libraries_by_kind_are}
use Rattle.goblin_mach.proofs.facts.libraries_by_kind_of_image.Goals as goal

pub returns : goal.returns
returns g c = libraries_by_kind_are c.args.image.now
