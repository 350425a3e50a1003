use Rattle.std.proofs.Common.{◌≡◌, ◌∙◌, ◌<◌, ◌≤◌, [], length, get_or, sym, ap, subst, arith}
use Rattle.std.specs.Prelude.{All, IsFalse}
use Rattle.std.proofs.lemmas.List.{length-map, get_or-map, take_all}
use Rattle.std.proofs.lemmas.List.Elements.{All-more}
use Rattle.mach_resolve.specs.Files as files
use Rattle.mach_resolve.specs.Follow.{FollowsTo}
use Rattle.mach_resolve.specs.Kept.{KeepsAnswers}
use Rattle.mach_resolve.specs.Special.{IsInMain, none, first}
use Rattle.mach_resolve.specs.ResolveViews.{input_view, input_views, place_view_of}
use Rattle.mach_resolve.proofs.Found.{file_at, ok_more}
use Rattle.mach_resolve.proofs.special.in_main.Goals as goal

pub returns-then-file-clause-target : goal.returns-then-file-clause-target
returns-then-file-clause-target g c = λ kept.
    let fs = input_views c.args.files.now in
    let f = c.file-item.result in
    let i = c.loop-file.file-index in
    let listed = file_at c.args.files.now.items.items c.deref-file-items.result.now i f c.deref-file-items.ensures.value c.loop-file-test.true c.file-item.is in
    ok_more (λ place. FollowsTo fs [] (record { library = f.name.now; name = c.args.name.now }) (place_view_of place))
    (λ place. IsInMain fs c.args.name.now (place_view_of place))
    c.follow.result (λ place way. first i (input_view f) (place_view_of place)
    (record { listed = listed; is_main = c.if-file.true; before = c.loop-file.invariant.0 }) way)
    (c.follow.ensures.followed (subst (KeepsAnswers fs) (sym c.loop-file.invariant.1) kept))

pub loop-file-preserved : goal.loop-file-preserved
loop-file-preserved g c =
    let fs = input_views c.args.files.now in
    let items = c.args.files.now.items.items in
    let xs = c.deref-file-items.result.now in
    let f = c.file-item.result in
    let i = c.loop-file.file-index in
    let same : xs ≡ items = c.deref-file-items.ensures.value in
    let within : i < length items = omega (arith, c.loop-file-test.true, ap length same) in
    let at : get_or fs i (input_view f) ≡ input_view f =
    get_or-map input_view items i f (input_view f) within ∙ ap input_view (sym (c.file-item.is ∙ ap (λ ys. get_or ys i f) same)) in (
      All-more (λ (x : files.File). IsFalse x.is_main) fs i (input_view f) (omega (arith, within, length-map items input_view)) c.loop-file.invariant.0
          (subst (λ (x : files.File). IsFalse x.is_main) (sym at) c.if-file.false),
      c.loop-file.invariant.1,
    )

pub returns-then-file-clause-kept : goal.returns-then-file-clause-kept
returns-then-file-clause-kept g c = λ kept.
    c.follow.ensures.kept (subst (KeepsAnswers (input_views c.args.files.now)) (sym c.loop-file.invariant.1) kept)

pub returns-clause-kept : goal.returns-clause-kept
returns-clause-kept g c = λ kept. subst (KeepsAnswers (input_views c.args.files.now)) (sym c.loop-file.invariant.1) kept

pub returns-clause-target : goal.returns-clause-target
returns-clause-target g c = λ kept.
    let fs = input_views c.args.files.now in
    let items = c.args.files.now.items.items in
    let all : length fs ≤ c.loop-file.file-index = omega (
      arith,
      c.loop-file-test.false,
      ap length c.deref-file-items.ensures.value,
      length-map items input_view,
    ) in
    none (subst (All (λ (x : files.File). IsFalse x.is_main)) (take_all c.loop-file.file-index fs all) c.loop-file.invariant.0)
