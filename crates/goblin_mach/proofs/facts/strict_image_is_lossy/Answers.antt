use Rattle.goblin_mach.proofs.ImageFacts.{strict-lossy}
use Rattle.goblin_mach.proofs.facts.strict_image_is_lossy.Goals as goal

pub returns : goal.returns
returns g c = λ bytes o p. strict-lossy bytes o c.args.image.now p
