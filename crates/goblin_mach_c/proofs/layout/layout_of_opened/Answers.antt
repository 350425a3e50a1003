use Rattle.std.proofs.Common.{◌≡◌, ℕ, List, Bool, true, false, refl, sym, subst, drop}
use Rattle.std.proofs.lemmas.Bool.{eqb-true, not-false}
use Rattle.std.specs.Prelude.{◌==◌}
use Rattle.mach_base.specs.declared.context.Ctx.{Ctx}
use Rattle.mach_load.specs.Command.{Command}
use Rattle.goblin_mach.specs.Image.{AllReadable, LossyOpensAs}
use Rattle.goblin_mach_c.specs.Opened.{OpensIn, lossy_mode}
use Rattle.goblin_mach_c.proofs.layout.layout_of_opened.Goals as goal

opens_in : (bytes : List ℕ) (lossy : Bool) (ctx : Ctx) (cs : List Command) → LossyOpensAs bytes 0 ctx cs → (lossy ≡ false → AllReadable ctx bytes cs)
    → OpensIn lossy bytes 0
opens_in bytes true ctx cs opens strict = (ctx, cs, opens)
opens_in bytes false ctx cs opens strict = (ctx, cs, record { lossy = opens; readable = strict refl })

pub returns : goal.returns
returns c bytes image opened =
    let mode = image.is_lossy in
    subst (λ o. OpensIn (lossy_mode mode) (drop o bytes) 0) (sym opened.numbers.place)
    (opens_in bytes (lossy_mode mode) opened.ctx opened.commands opened.opens (λ e. opened.strict (eqb-true mode 0 (not-false (mode == 0) e))))
