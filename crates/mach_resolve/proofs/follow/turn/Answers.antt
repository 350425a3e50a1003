use Rattle.std.proofs.Common.{refl, sym}
use Rattle.mach_resolve.specs.Follow.{IsGiven, absent}
use Rattle.mach_resolve.specs.ResolveViews.{input_views, met_view, symbol_view_of}
use Rattle.mach_resolve.proofs.KeptFiles.{closure_found, closure_kept}
use Rattle.mach_resolve.proofs.follow.turn.Goals as goal

pub returns-in_default-clause-step : goal.returns-in_default-clause-step
returns-in_default-clause-step g c = λ kept. absent (sym c.in_default.ensures.place)

pub returns-in-Some-get-clause-step : goal.returns-in-Some-get-clause-step
returns-in-Some-get-clause-step g c = λ kept.
    let fs = input_views c.args.files.now in
    let closure = c.in-Some-get.closure.now in
    let given : IsGiven fs (symbol_view_of c.args.symbol) (met_view closure) =
    record {
      place = c.in-Some.field-0;
      is_place = sym c.in-Some.ensures.place;
      is_after = closure_found fs c.args.kept.now kept c.args.symbol.library closure c.in-Some-get.ensures.value;
    } in
    c.step_in.ensures.step given

pub returns-clause-kept : goal.returns-clause-kept
returns-clause-kept g c = λ kept.
    closure_kept (input_views c.args.files.now) c.args.kept.now kept _ c.args.symbol.library c.in_ok-closure.closure c.in_ok-closure.ensures
    c.in_ok-insert.ensures.entries refl refl refl
