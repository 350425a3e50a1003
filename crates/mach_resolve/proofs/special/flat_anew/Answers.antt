use Rattle.std.proofs.Common.{[], sym, subst}
use Rattle.mach_dyld.specs.Exports.{info_of}
use Rattle.mach_resolve.specs.Follow.{FollowsTo, HasFirst, NoneHas}
use Rattle.mach_resolve.specs.Special.{IsFlat, nowhere, at, further}
use Rattle.mach_resolve.specs.ResolveViews.{input_view, input_views, symbol_view_of, place_view_of}
use Rattle.mach_resolve.proofs.Found.{ok_more}
use Rattle.mach_resolve.proofs.special.flat_anew.Goals as goal

pub returns-in-Leads-clause-flat : goal.returns-in-Leads-clause-flat
returns-in-Leads-clause-flat g c = λ met following same kept.
    let fs = input_views c.args.files.now in
    let name = c.args.name.now in
    let f = input_view c.in-Ok-Some.file.now in
    let info = info_of c.in-Ok-Some.info in
    let has = subst (λ places. HasFirst fs name places f info) (sym same) (rw c.in-Ok-Some.field-0-is at c.in-Ok-Some.ensures.found) in
    ok_more (λ place. FollowsTo fs [] (symbol_view_of c.in-Leads.next) (place_view_of place)) (λ place. IsFlat fs name (place_view_of place)) c.follow.result
    (λ place way. further met f info (symbol_view_of c.in-Leads.next) (place_view_of place) following has c.in-Leads.ensures way)
    (c.follow.ensures.followed kept)

pub returns-in-Ends-clause-flat : goal.returns-in-Ends-clause-flat
returns-in-Ends-clause-flat g c = λ met following same kept.
    let fs = input_views c.args.files.now in
    let name = c.args.name.now in
    let f = input_view c.in-Ok-Some.file.now in
    let info = info_of c.in-Ok-Some.info in
    let has = subst (λ places. HasFirst fs name places f info) (sym same) (rw c.in-Ok-Some.field-0-is at c.in-Ok-Some.ensures.found) in
    subst (IsFlat fs name) (sym c.in-Ends.ensures.2) (at met f info c.in-Ends.ensures.0 following has c.in-Ends.ensures.1)

pub returns-in-Ok-None-clause-flat : goal.returns-in-Ok-None-clause-flat
returns-in-Ok-None-clause-flat g c = λ met following same kept.
    let fs = input_views c.args.files.now in
    nowhere met following (subst (NoneHas fs c.args.name.now) (sym same) (rw c.in-Ok-None.field-0-is at c.in-Ok-None.ensures.none))
