use Rattle.std.proofs.Common.{refl}
use Rattle.mach_resolve.specs.ResolveViews.{input_views}
use Rattle.mach_resolve.proofs.KeptFiles.{flat_found, flat_kept}
use Rattle.mach_resolve.proofs.special.flat.Goals as goal

pub returns-in-Some-clause-flat : goal.returns-in-Some-clause-flat
returns-in-Some-clause-flat g c = λ met following same kept.
    flat_found (input_views c.args.files.now) c.args.kept.now kept c.args.name c.in-Some.place.now c.in-Some.ensures.value

pub returns-clause-kept : goal.returns-clause-kept
returns-clause-kept g c = λ met following same kept.
    flat_kept (input_views c.args.files.now) _ (c.in-Ok.ensures.kept kept) _ c.args.name c.in-Ok.place
    (c.in-Ok.ensures.flat met following same kept) refl refl c.in_ok-insert.ensures.entries refl
