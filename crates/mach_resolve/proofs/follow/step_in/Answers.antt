use Rattle.std.proofs.Common.{sym, subst}
use Rattle.mach_dyld.specs.Exports.{info_of}
use Rattle.mach_resolve.specs.Follow.{IsEnd, HasFirst, NoneHas, unlisted}
use Rattle.mach_resolve.specs.ResolveViews.{input_view, input_views, met_view, symbol_view_of}
use Rattle.mach_resolve.proofs.Steps.{is_step}
use Rattle.mach_resolve.proofs.follow.step_in.Goals as goal

pub returns-in-Ok-Some-clause-step : goal.returns-in-Ok-Some-clause-step
returns-in-Ok-Some-clause-step g c = λ given.
    let files = input_views c.args.files.now in
    let s = symbol_view_of c.args.symbol in
    let following = met_view c.args.closure.now in
    let g' = input_view c.in-Ok-Some.file.now in
    let info = info_of c.in-Ok-Some.info in
    let has = rw c.in-Ok-Some.field-0-is at c.in-Ok-Some.ensures.found in
    is_step files s following g' info c.lead.result given
    (subst (λ places. HasFirst files s.name places g' info) c.as_slice.ensures.value has) c.lead.ensures

pub returns-in-Ok-None-clause-step : goal.returns-in-Ok-None-clause-step
returns-in-Ok-None-clause-step g c = λ given.
    let files = input_views c.args.files.now in
    let s = symbol_view_of c.args.symbol in
    let following = met_view c.args.closure.now in
    let none = rw c.in-Ok-None.field-0-is at c.in-Ok-None.ensures.none in
    subst (IsEnd files s) (sym c.nowhere.ensures)
    (unlisted following given (subst (NoneHas files s.name) c.as_slice.ensures.value none))
