use Rattle.mach_signature.proofs.AsSigned.{as_signed}
use Rattle.mach_signature.proofs.laws.images.image_as_signed.Goals as goal

pub returns : goal.returns
returns c = as_signed
