use Rattle.goblin_mach.proofs.ImageFacts.{export_is}
use Rattle.goblin_mach.proofs.facts.found_export_of_image.Goals as goal

pub returns : goal.returns
returns g c = λ name. export_is c.args.image.now name
