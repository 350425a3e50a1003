use Rattle.std.proofs.Common.{◌∙◌, sym, subst, arith}
use Rattle.std.proofs.lemmas.List.{length-map}
use Rattle.mach_resolve.specs.ResolveViews.{input_view, input_views}
use Rattle.mach_resolve.proofs.Weak.{WeakSoFar, none_so_far, one_more, one_answers, selected, selected_none}
use Rattle.mach_resolve.proofs.special.weak_lookup_anew.Goals as goal

pub loop-place-init : goal.loop-place-init
loop-place-init g c = none_so_far (input_views c.args.files.now) c.args.name.now

pub returns-in-Some-weak-clause-target : goal.returns-in-Some-weak-clause-target
returns-in-Some-weak-clause-target g c =
    let fs = input_views c.args.files.now in
    let items = c.args.files.now.items.items in
    selected fs c.args.name.now c.loop-place.place c.in-Some-weak.place
    (omega (arith, c.loop-place-test.false, c.len-place-end.ensures, c.args.files.now.items.ok.0, length-map items input_view))
    (subst (WeakSoFar fs c.args.name.now c.loop-place.place) c.in-Some-weak.is c.loop-place.invariant)

pub returns-in-None-weak-clause-target : goal.returns-in-None-weak-clause-target
returns-in-None-weak-clause-target g c =
    let fs = input_views c.args.files.now in
    let items = c.args.files.now.items.items in
    selected_none fs c.args.name.now c.loop-place.place
    (omega (arith, c.loop-place-test.false, c.len-place-end.ensures, c.args.files.now.items.ok.0, length-map items input_view))
    (subst (WeakSoFar fs c.args.name.now c.loop-place.place) c.in-None-weak.is c.loop-place.invariant)

pub returns-in-Some-clause-target : goal.returns-in-Some-clause-target
returns-in-Some-clause-target g c =
    one_answers (input_views c.args.files.now) c.args.name.now c.loop-place.place c.loop-place.weak c.in-Ok.found c.in-Some.place
    c.in-Ok.ensures.some (sym c.strong.ensures ∙ c.in-Some.is) c.loop-place.invariant

pub loop-place-preserved : goal.loop-place-preserved
loop-place-preserved g c =
    one_more (input_views c.args.files.now) c.args.name.now c.loop-place.place c.loop-place.weak c.in-Ok.found c.first_place-weak.result
    (omega (arith, c.loop-place-test.true, c.len-place-end.ensures, c.args.files.now.items.ok.0, length-map c.args.files.now.items.items input_view))
    c.in-Ok.ensures.some c.in-Ok.ensures.none (sym c.strong.ensures ∙ c.in-None.is) c.first_place-weak.ensures c.loop-place.invariant
