use Rattle.std.proofs.Common.{◌∙◌, refl, sym}
use Rattle.goblin_mach.specs.OpenImage.{segments_view}
use Rattle.goblin_mach.specs.SymbolMaps.{image_of_addresses}
use Rattle.goblin_mach.proofs.AddressMaps.{found_is, function_by_all, held_none, held_some}
use Rattle.goblin_mach.proofs.addresses.map.AddressMap.look_up.Goals as goal

pub returns-in-None : goal.returns-in-None
returns-in-None g c = λ bytes opened.
    let m = c.args.self.now in
    let image = image_of_addresses m in
    let none = held_none (segments_view image) c.args.address _ (sym c.section_with.ensures ∙ c.in-None.is) in
    found_is image bytes c.args.address _ opened (sym none) (rw none refl) (λ items are. rw none refl)

pub returns-in-Some : goal.returns-in-Some
returns-in-Some g c = λ bytes opened.
    let m = c.args.self.now in
    let image = image_of_addresses m in
    let ss = segments_view image in
    let some = held_some ss c.args.address _ c.in-Some.field-0 (sym c.section_with.ensures ∙ c.in-Some.is) in
    let by = c.symbol_in_section.ensures in
    found_is image bytes c.args.address _ opened (sym some.0) (rw some.0 (rw some.1 at by))
    (λ items are. rw some.0 (function_by_all items _ c.args.address _ (rw (c.as_slice.ensures.value, m.begun.all items are) at c.function_by.ensures)))
