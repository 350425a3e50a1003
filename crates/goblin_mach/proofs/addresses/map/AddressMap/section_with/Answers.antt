use Rattle.std.proofs.Common.{◌∙◌, List, ap, slice_get, sym}
use Rattle.goblin_mach.specs.declared.addresses.map.MappedSection.{MappedSection}
use Rattle.goblin_mach.specs.OpenImage.{segments_view}
use Rattle.goblin_mach.specs.SymbolMaps.{image_of_addresses}
use Rattle.goblin_mach.proofs.AddressMaps.{held_by}
use Rattle.goblin_mach.proofs.addresses.map.AddressMap.section_with.Goals as goal

pub returns-in_err-number : goal.returns-in_err-number
returns-in_err-number g c =
    let m = c.args.self.now in
    c.from_residual.ensures
    ∙ held_by (segments_view (image_of_addresses m)) c.args.address m.sections.items m.memory.items.items _ m.listed m.placed
    (sym c.in_err-number.was ∙ c.first_with.ensures)

pub returns : goal.returns
returns g c =
    let m = c.args.self.now in
    c.item_at.ensures
    ∙ ap (λ (items : List MappedSection). slice_get items c.in_ok-number.number) c.as_slice.ensures.value
    ∙ held_by (segments_view (image_of_addresses m)) c.args.address m.sections.items m.memory.items.items _ m.listed m.placed
    (sym c.in_ok-number.was ∙ c.first_with.ensures)
