use Rattle.mach_dyld.proofs.BindNames.{subst, ℕ, List, Input, input_of, bind_of}
use Rattle.mach_dyld.specs.BindCursors.{TextIsAt}
use Rattle.mach_parts.specs.Bindings.{binding_view}
use Rattle.mach_dyld.specs.BindingsLeft.{given_now}
use Rattle.mach_dyld.proofs.BindPlaced.{binding_reports, occurs}
use Rattle.mach_dyld.proofs.bindings.OpcodeBindingIterator.next_placed.Goals as goal

pub returns-in-Some-Ok-clause-placed : goal.returns-in-Some-Ok-clause-placed
returns-in-Some-Ok-clause-placed c = λ x lazy over.
    let new = c.next_item.new.self in
    let bytes = c.args.self.now.stream.source.bytes.now in
    let bound = rw c.in-Some-Ok.field-0-is at c.in-Some-Ok.ensures.bound in
    let reports = binding_reports (input_of new.source) (given_now new.more new.state.settings.library)
    (record (bind_of new.state.settings) { offset = bound.0 }) (binding_view c.in-Some-Ok.binding) bound.1 in
    let named = occurs bytes new.state.settings.name.now new.state.settings.name_place (c.in-Some-Ok.ensures.keeps.named over.named) in
    subst (λ (i : Input). TextIsAt i.bytes new.state.settings.name_place c.in-Some-Ok.binding.name.now) over.source
    (subst (λ (n : List ℕ). TextIsAt bytes new.state.settings.name_place n) reports named)

pub returns-in-Some-Ok-clause-site : goal.returns-in-Some-Ok-clause-site
returns-in-Some-Ok-clause-site c = (c.next_item.new.self.state.settings.library, rw c.in-Some-Ok.field-0-is at c.in-Some-Ok.ensures.site)
