use Rattle.mach_signature.proofs.SignedFacts.{as_signed_is, refusal_is}
use Rattle.mach_signature.proofs.laws.images.as_signed_of_image.Goals as goal

pub returns-clause-said : goal.returns-clause-said
returns-clause-said g c = as_signed_is c.args.image.now

pub returns-clause-refused : goal.returns-clause-refused
returns-clause-refused g c = refusal_is c.args.image.now
