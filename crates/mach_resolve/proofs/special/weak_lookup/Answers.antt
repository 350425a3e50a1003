use Rattle.std.proofs.Common.{refl}
use Rattle.mach_resolve.specs.ResolveViews.{input_views}
use Rattle.mach_resolve.proofs.KeptFiles.{weak_found, weak_kept}
use Rattle.mach_resolve.proofs.special.weak_lookup.Goals as goal

pub returns-in-Some-clause-target : goal.returns-in-Some-clause-target
returns-in-Some-clause-target g c = λ kept.
    weak_found (input_views c.args.files.now) c.args.kept.now kept c.args.name c.in-Some.place.now c.in-Some.ensures.value

pub returns-clause-kept : goal.returns-clause-kept
returns-clause-kept g c = λ kept.
    weak_kept (input_views c.args.files.now) c.args.kept.now kept _ c.args.name c.in-Ok.place c.in-Ok.ensures.target refl refl refl
    c.in_ok-insert.ensures.entries
