use Rattle.std.proofs.Common.{rules, tests, sym, ◌∙◌}
use Rattle.std.proofs.lemmas.Iterator.Adapters.{option_map_id}
use Rattle.std.proofs.lemmas.Iterator.Consumers.{YieldsList-from_first}
use Rattle.std.proofs.lemmas.Iterator.Search.{find_from_yields_List}
use Rattle.mach_layout.specs.Laid.{laid_of, segments_of}
use Rattle.mach_layout.specs.PartsLeft.{placed_segments_left}
use Rattle.mach_layout.specs.Ranges.{is_linkedit_segment}
use Rattle.mach_layout.specs.declared.placed_sections.PlacedSegment.{PlacedSegment}
use Rattle.mach_layout.proofs.ranges.linkedit_of.Goals as goal

pub returns : goal.returns
returns c =
    sym (option_map_id c.find.result)
    ∙ find_from_yields_List is_linkedit_segment c.find.new.self _ c.find.result c.find.ensures.ran
    (YieldsList-from_first (λ (s : PlacedSegment). s) placed_segments_left {s = c.segments.result} (segments_of (laid_of c.args.layout.now)) c.segments.ensures)
    (λ x b q k. search (rules, tests))
