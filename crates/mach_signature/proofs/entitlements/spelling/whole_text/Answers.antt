use Rattle.std.proofs.Common.{refl}
use Rattle.std.specs.Char.{encode_utf8}
use Rattle.mach_signature.proofs.entitlements.spelling.whole_text.Goals as goal

pub returns : goal.returns
unfolding encode_utf8
returns c = refl
