use Rattle.std.proofs.Common.{refl}
use Rattle.mach_resolve.specs.ResolveViews.{input_views}
use Rattle.mach_resolve.proofs.KeptFiles.{place_found, place_kept}
use Rattle.mach_resolve.proofs.follow.follow.Goals as goal

pub returns-in-Some-clause-followed : goal.returns-in-Some-clause-followed
returns-in-Some-clause-followed g c = λ kept.
    place_found (input_views c.args.files.now) c.args.kept.now kept c.args.start c.in-Some.place.now c.in-Some.ensures.value

pub returns-clause-kept : goal.returns-clause-kept
returns-clause-kept g c = λ kept.
    place_kept (input_views c.args.files.now) _ (c.in-Ok.ensures.kept kept) _ c.args.start c.in-Ok.place (c.in-Ok.ensures.followed kept)
    refl c.in_ok-insert.ensures.entries refl refl
