use Rattle.mach_signature.proofs.Four.{four_at_most}
use Rattle.mach_signature.proofs.laws.signatures.at_most_four_directories.Goals as goal

pub returns : goal.returns
returns c = λ s d e. four_at_most s d e
