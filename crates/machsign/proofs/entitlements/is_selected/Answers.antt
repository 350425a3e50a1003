use Rattle.std.proofs.Common.{Option, subst, sym}
use Rattle.goblin_mach.specs.declared.item.EntryCpu.{EntryCpu}
use Rattle.machsign.proofs.Opened.{taken_of}
use Rattle.machsign.specs.Entitlements.{IsSelectedImage}
use Rattle.machsign.proofs.entitlements.is_selected.Goals as goal

pub returns-in-None : goal.returns-in-None
returns-in-None g c = λ bytes opened.
    subst (λ (e : Option EntryCpu). IsSelectedImage c.args.cpu e bytes c.takes-in-None.result) (sym c.in-None.is)
    (taken_of c.args.cpu bytes _ _ opened (sym c.takes-in-None.ensures))
