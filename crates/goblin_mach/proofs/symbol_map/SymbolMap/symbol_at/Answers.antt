use Rattle.std.proofs.Common.{◌∙◌, sym, ap, map}
use Rattle.mach_parts.specs.Segment.{segment_view}
use Rattle.goblin_mach.specs.NearestSymbol.{section_number}
use Rattle.goblin_mach.specs.OpenImage.{segments_view}
use Rattle.goblin_mach.specs.SymbolMaps.{image_of_map, image_symbols}
use Rattle.goblin_mach.proofs.MappedNearest.{symbol_by_section}
use Rattle.goblin_mach.proofs.symbol_map.SymbolMap.symbol_at.Goals as goal

pub returns : goal.returns
returns g c =
    let image = image_of_map c.args.self.now in
    symbol_by_section (segments_view image) (image_symbols image) _ c.in_ok-section.section c.section_number-number.result c.args.address
    c.symbol_in_section.result (sym c.section_at.ensures ∙ c.in_ok-section.was)
    (c.section_number-number.ensures ∙ ap (λ s. section_number (map segment_view s) c.in_ok-section.section) c.as_slice.ensures)
    c.symbol_in_section.ensures
