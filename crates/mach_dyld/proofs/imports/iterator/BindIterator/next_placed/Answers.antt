use Rattle.mach_dyld.proofs.BindNames.{◌≡◌, ◌∙◌, ap, subst, ℕ, List, Some, Input, slice_get, input_of, bind_of, bind_import_view}
use Rattle.mach_dyld.specs.BindCursors.{TextIsAt}
use Rattle.mach_dyld.specs.declared.imports.source.Source.{Source}
use Rattle.mach_dyld.proofs.BindPlaced.{import_reports, occurs}
use Rattle.mach_dyld.proofs.imports.iterator.BindIterator.next_placed.Goals as goal

pub returns-in-Some-Ok-clause-placed : goal.returns-in-Some-Ok-clause-placed
returns-in-Some-Ok-clause-placed c = λ x lazy over.
    let new = c.next_item.new.self in
    let bound = rw c.in-Some-Ok.field-0-is at c.in-Some-Ok.ensures.bound in
    let reports = import_reports (input_of new.source) (record (bind_of new.state.settings) { offset = bound.0 })
    (bind_import_view c.in-Some-Ok.import) bound.1 in
    let source = ap (λ (s : Source). input_of s) c.in-Some-Ok.ensures.keeps.source ∙ over.source in
    let named = occurs c.args.self.now.stream.source.bytes.now new.state.settings.name.now new.state.settings.name_place
    (c.in-Some-Ok.ensures.keeps.named over.named) in
    record {
      name = subst (λ (i : Input). TextIsAt i.bytes new.state.settings.name_place c.in-Some-Ok.import.name.now) over.source
          (subst (λ (n : List ℕ). TextIsAt c.args.self.now.stream.source.bytes.now new.state.settings.name_place n) reports.0 named);
      library_is = subst (λ (i : Input). slice_get i.libs new.state.settings.library ≡ Some c.in-Some-Ok.import.dylib.now) source reports.1;
    }
