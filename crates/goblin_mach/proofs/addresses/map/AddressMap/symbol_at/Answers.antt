use Rattle.std.proofs.Common.{◌∙◌, refl, sym}
use Rattle.mach_parts.specs.SectionRecord.{section_holding}
use Rattle.goblin_mach.specs.OpenImage.{segments_view}
use Rattle.goblin_mach.specs.SymbolMaps.{image_of_addresses, image_symbols}
use Rattle.goblin_mach.proofs.AddressMaps.{held_none, held_some}
use Rattle.goblin_mach.proofs.SymbolAtAddress.{symbol_is}
use Rattle.goblin_mach.proofs.addresses.map.AddressMap.symbol_at.Goals as goal

pub returns-in-None-clause-nearest : goal.returns-in-None-clause-nearest
returns-in-None-clause-nearest g c =
    let image = image_of_addresses c.args.self.now in
    let none = held_none (segments_view image) c.args.address _ (sym c.section_with.ensures ∙ c.in-None.is) in rw none refl

pub returns-in-None-clause-determined : goal.returns-in-None-clause-determined
returns-in-None-clause-determined g c =
    let image = image_of_addresses c.args.self.now in
    let ss = segments_view image in
    symbol_is ss (image_symbols image) (section_holding ss c.args.address) c.args.address _ (returns-in-None-clause-nearest g c)

pub returns-in-Some-clause-nearest : goal.returns-in-Some-clause-nearest
returns-in-Some-clause-nearest g c =
    let ss = segments_view (image_of_addresses c.args.self.now) in
    let some = held_some ss c.args.address _ c.in-Some.mapped (sym c.section_with.ensures ∙ c.in-Some.is) in
    let by = c.symbol_in_section.ensures in rw some.0 (rw some.1 at by)

pub returns-in-Some-clause-determined : goal.returns-in-Some-clause-determined
returns-in-Some-clause-determined g c =
    let image = image_of_addresses c.args.self.now in
    let ss = segments_view image in
    symbol_is ss (image_symbols image) (section_holding ss c.args.address) c.args.address _ (returns-in-Some-clause-nearest g c)
