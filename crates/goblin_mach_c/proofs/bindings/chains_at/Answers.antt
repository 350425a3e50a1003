use Rattle.std.proofs.Common.{◌∙◌, ap}
use Rattle.goblin_mach.specs.Fixups.{chained_at}
use Rattle.goblin_mach.specs.OpenImage.{bytes_view, ctx_view}
use Rattle.goblin_mach_c.proofs.BoundChains.{chained_lie}
use Rattle.goblin_mach_c.proofs.bindings.chains_at.Goals as goal

pub returns-in-Some-clause-occur : goal.returns-in-Some-clause-occur
returns-in-Some-clause-occur c = λ chained is.
    let m = c.args.image.now in
    let size = c.in-Some.field-0-1 in (
      size,
      chained_lie (ctx_view m).le (bytes_view m) c.in-Some.place size chained (ap (λ p. chained_at (ctx_view m).le (bytes_view m) p) (c.in-Some.ensures) ∙ is),
    )
