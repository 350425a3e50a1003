use Rattle.std.proofs.Common.{◌∙◌, ap}
use Rattle.mach_base.proofs.ItemLists.{read_as-Reads}
use Rattle.goblin_mach.proofs.ImageFacts.{strict-lossy}
use Rattle.machsign.specs.Entitlements.{entitlements_of}
use Rattle.machsign.proofs.SignedFacts.{entitlements_are}
use Rattle.machsign.proofs.entitlements.of_image.Goals as goal

pub returns : goal.returns
returns g c = λ bytes opened.
    entitlements_are c.args.image.now bytes (strict-lossy bytes 0 c.args.image.now opened) _
    (c.of_signature.ensures ∙ ap entitlements_of (read_as-Reads _ _ _ c.code_signature.ensures))
