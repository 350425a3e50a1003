use Rattle.mach_signature.proofs.SignedFacts.{signature_is}
use Rattle.mach_signature.proofs.laws.images.signature_of_image.Goals as goal

pub returns : goal.returns
returns g c = signature_is c.args.image.now
