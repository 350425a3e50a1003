use Rattle.std.proofs.Common.{subst}
use Rattle.std.specs.Prelude.{All}
use Rattle.std.proofs.lemmas.List.{take_all}
use Rattle.std.proofs.lemmas.List.Elements.{All-more}
use Rattle.mach_resolve.specs.Files.{Lacks}
use Rattle.mach_resolve.specs.ResolveViews.{input_views}
use Rattle.mach_resolve.proofs.file.Files.first_having.Goals as goal

pub loop-place-preserved : goal.loop-place-preserved
loop-place-preserved g c =
    All-more (Lacks (input_views c.args.self.now) c.args.name.now) c.args.places.now c.loop-place.place-index 0 c.loop-place-test.true c.loop-place.invariant
    (rw c.in-Ok-None.field-0-is at c.in-Ok-None.ensures.none)

pub returns-clause-none : goal.returns-clause-none
returns-clause-none g c =
    subst (All (Lacks (input_views c.args.self.now) c.args.name.now)) (take_all c.loop-place.place-index c.args.places.now c.loop-place-test.false)
    c.loop-place.invariant
