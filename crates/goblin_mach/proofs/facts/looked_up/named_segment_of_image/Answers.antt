use Rattle.goblin_mach.proofs.LookedUpFacts.{segment_named_is}
use Rattle.goblin_mach.proofs.facts.looked_up.named_segment_of_image.Goals as goal

pub returns : goal.returns
returns g c = segment_named_is c.args.image.now
