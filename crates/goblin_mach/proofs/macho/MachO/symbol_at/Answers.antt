use Rattle.std.proofs.Common.{◌∙◌, sym, ap, map}
use Rattle.std.specs.Prelude.{option_map}
use Rattle.mach_parts.specs.Segment.{segment_view}
use Rattle.mach_parts.specs.SymbolViews.{table_of}
use Rattle.goblin_mach.specs.ImageSlots.{symbol_table_view}
use Rattle.goblin_mach.specs.NearestSymbol.{section_number}
use Rattle.goblin_mach.specs.OpenImage.{segments_view}
use Rattle.goblin_mach.proofs.NearestItems.{symbol_found}
use Rattle.goblin_mach.proofs.macho.MachO.symbol_at.Goals as goal

pub returns : goal.returns
returns g c =
    symbol_found (segments_view c.args.self.now) (symbol_table_view c.args.self.now) (table_of c.in_ok-table.table.now) _ c.in_ok-section.section
    c.section_number-number.result c.args.address c.nearest.result (sym c.section_at.ensures ∙ c.in_ok-section.was)
    (ap (λ symbols. option_map table_of symbols) (sym c.in_ok-table.ensures.value))
    (c.section_number-number.ensures ∙ ap (λ s. section_number (map segment_view s) c.in_ok-section.section) c.as_slice.ensures)
    c.nearest.ensures
