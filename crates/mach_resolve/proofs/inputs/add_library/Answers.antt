use Rattle.std.proofs.Common.{◌∙◌, map, sym, ap, subst}
use Rattle.std.proofs.lemmas.List.{map_push}
use Rattle.mach_resolve.specs.Given.{AddsLibrary, library, passed}
use Rattle.mach_resolve.specs.Opened.{given_view}
use Rattle.mach_resolve.specs.ResolveViews.{input_view, input_views, note_view_of, gathered_view}
use Rattle.mach_resolve.proofs.inputs.add_library.Goals as goal

pub returns-in-Ok-Some-clause-added : goal.returns-in-Ok-Some-clause-added
returns-in-Ok-Some-clause-added g c =
    let arm = c.in-Ok-Some in
    library (input_view arm.file) (gathered_view c.in_ok-add-in-Ok-Some.field-0) (rw (arm.is, arm.field-0-is) at c.open_library.ensures.opened)
    c.in_ok-add-in-Ok-Some.ensures

pub returns-in-Ok-None-clause-added : goal.returns-in-Ok-None-clause-added
returns-in-Ok-None-clause-added g c =
    let arm = c.in-Ok-None in
    let x = c.args.gathered in
    subst (λ ns. AddsLibrary c.args.cputype c.args.number (given_view c.args.given) (gathered_view x) (record { files = input_views x.files; notes = ns }))
    (sym (ap (map note_view_of) c.in_ok-push-in-Ok-None.ensures.items ∙ map_push note_view_of x.notes.items _))
    (passed (rw (arm.is, arm.field-0-is) at c.open_library.ensures.none))
