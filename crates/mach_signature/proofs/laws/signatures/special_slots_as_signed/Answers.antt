use Rattle.mach_signature.proofs.SpecialPromise.{special_as_signed, as_signed_special}
use Rattle.mach_signature.proofs.laws.signatures.special_slots_as_signed.Goals as goal

pub returns : goal.returns
returns c = λ d s plist. (special_as_signed d s plist, as_signed_special d s plist)
