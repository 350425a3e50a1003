use Rattle.mach_signature.proofs.CodePromise.{code_as_signed, as_signed_code}
use Rattle.mach_signature.proofs.laws.signatures.code_as_signed.Goals as goal

pub returns : goal.returns
returns c = λ d image. (code_as_signed d image, as_signed_code d image)
