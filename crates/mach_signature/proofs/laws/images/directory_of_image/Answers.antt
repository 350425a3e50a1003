use Rattle.mach_signature.proofs.SignedFacts.{directory_is}
use Rattle.mach_signature.proofs.laws.images.directory_of_image.Goals as goal

pub returns : goal.returns
returns g c = directory_is c.args.image.now
