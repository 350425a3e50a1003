use Rattle.std.proofs.Common.{◌≡◌, ◌∙◌, Ok, Some, inr, sym, ap}
use Rattle.mach_base.specs.Number.{slice_at}
use Rattle.mach_chained.specs.Views.{fixups_view}
use Rattle.mach_chained.specs.declared.header.ChainedFixups.{ChainedFixups}
use Rattle.mach_parts.specs.Bindings.{binding_read, binding_view}
use Rattle.mach_base.specs.Text.{texts}
use Rattle.goblin_mach_c.proofs.bindings.next_bound.Goals as goal

pub returns-in-Some-Ok-binding-clause-placed : goal.returns-in-Some-Ok-binding-clause-placed
returns-in-Some-Ok-binding-clause-placed c = λ bytes size short payload.
    let chained = c.fixups.walk.chained in
    let there : slice_at size bytes c.args.chains_at ≡ Ok (fixups_view chained).payload =
    payload ∙ ap (λ (v : ChainedFixups). Ok (fixups_view v).payload) (sym c.fixups.invariant.chained) in
    let found = c.in-Some-Ok-binding in
    inr (c.name_place-name_place.ensures.occurs bytes size short there c.args.segments.now c.args.base (texts c.args.libs.now) (binding_view found.binding)
    (found.ensures ∙ ap (λ r. Some (binding_read r)) found.field-0-is))
