use Rattle.mach_signature.proofs.SignedFacts.{faults_are}
use Rattle.mach_signature.proofs.laws.images.signature_faults_of_image.Goals as goal

pub returns : goal.returns
returns g c = faults_are c.args.image.now
