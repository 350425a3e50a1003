use Rattle.mach_dyld.proofs.BindNames.{◌∙◌, refl, sym, ap, items_left}
use Rattle.mach_dyld.proofs.StreamStops.{after_end}
use Rattle.mach_dyld.proofs.imports.stream.Stream.end_at.Goals as goal

pub returns-clause-fails : goal.returns-clause-fails
returns-clause-fails g c =
    let u = g.M.BindRules.rules in
    (ap (items_left u) (sym c.copied.ensures) ∙ c.error-error.ensures, (after_end u g.M.BindRules.reads _ refl).0)
