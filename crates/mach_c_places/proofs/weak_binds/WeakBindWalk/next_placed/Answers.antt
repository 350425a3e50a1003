use Rattle.mach_dyld.proofs.BindNames.{◌∙◌, subst, ℕ, List, Input, input_of, bind_of}
use Rattle.mach_dyld.specs.BindCursors.{TextIsAt}
use Rattle.mach_dyld.proofs.BindPlaced.{occurs}
use Rattle.mach_dyld.specs.WeakBindsLeft.{weak_bind_view}
use Rattle.mach_c_places.specs.WeakCursors.{name_of_weak}
use Rattle.mach_c_places.proofs.WeakNames.{seen_name, weak_reports}
use Rattle.mach_c_places.proofs.weak_binds.WeakBindWalk.next_placed.Goals as goal

pub returns-in-Some-Ok-clause-placed : goal.returns-in-Some-Ok-clause-placed
returns-in-Some-Ok-clause-placed c = λ x r over.
    let new = c.next_item.new.self in
    let bytes = c.args.self.now.stream.source.bytes.now in
    let row = c.in-Some-Ok.row in
    let bound = rw c.in-Some-Ok.field-0-is at c.in-Some-Ok.ensures.bound in
    let settings = record (bind_of new.state.settings) { offset = bound.0 } in
    let reports = weak_reports (input_of new.source) settings new.more (weak_bind_view row) bound.1 ∙ seen_name row in
    let named = occurs bytes new.state.settings.name.now new.state.settings.name_place (c.in-Some-Ok.ensures.keeps.named over.named) in
    subst (λ (i : Input). TextIsAt i.bytes new.state.settings.name_place (name_of_weak row)) over.source
    (subst (λ (n : List ℕ). TextIsAt bytes new.state.settings.name_place n) reports named)

pub returns-in-Some-Ok-clause-site : goal.returns-in-Some-Ok-clause-site
returns-in-Some-Ok-clause-site c = (c.next_item.new.self.state.settings.library, rw c.in-Some-Ok.field-0-is at c.in-Some-Ok.ensures.site)
