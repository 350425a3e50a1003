use Rattle.std.proofs.Common.{◌∙◌, ap, sym}
use Rattle.goblin_mach.specs.AllStretches.{parts_view}
use Rattle.goblin_mach.specs.Stretches.{at_number, first_holder}
use Rattle.goblin_mach.proofs.PartLists.{seen_memory}
use Rattle.goblin_mach.proofs.addresses.segments.AllStretches.first_with.Goals as goal

pub returns-in-Some : goal.returns-in-Some
returns-in-Some g c =
    let parts = parts_view c.args.self.now in
    let as_seen = seen_memory c.args.self.now.items.items ∙ c.args.self.now.same in
    let held = sym c.in-Some.is ∙ c.first_with.ensures ∙ sym (ap (first_holder c.args.address 0) as_seen) in
    c.get.ensures ∙ ap (at_number parts) held

pub returns-in-None : goal.returns-in-None
returns-in-None g c =
    let parts = parts_view c.args.self.now in
    let as_seen = seen_memory c.args.self.now.items.items ∙ c.args.self.now.same in
    let held = sym c.in-None.is ∙ c.first_with.ensures ∙ sym (ap (first_holder c.args.address 0) as_seen) in
    ap (at_number parts) held
