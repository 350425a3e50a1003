use Rattle.mach_signature.proofs.Promise.{all_as_signed, as_signed_all}
use Rattle.mach_signature.proofs.laws.signatures.all_as_signed.Goals as goal

pub returns : goal.returns
returns c = λ x. (all_as_signed x, as_signed_all x)
