use Rattle.goblin_mach.proofs.LookedUpFacts.{section_named_is}
use Rattle.goblin_mach.proofs.facts.looked_up.named_section_of_image.Goals as goal

pub returns : goal.returns
returns g c = section_named_is c.args.image.now
