use Rattle.std.proofs.Common.{rules, tests}
use Rattle.std.proofs.lemmas.Iterator.Consumers.{YieldsList-from_first}
use Rattle.std.proofs.lemmas.Iterator.Search.{any_from_yields_List}
use Rattle.mach_layout.specs.Laid.{laid_of, segments_of}
use Rattle.mach_layout.specs.PartsLeft.{placed_segments_left}
use Rattle.mach_layout.specs.Segments.{holds_header}
use Rattle.mach_layout.proofs.segments.has_segment_of_header.Goals as goal

pub returns : goal.returns
returns c =
    any_from_yields_List (holds_header (laid_of c.args.layout.now)) c.any.new.self _ c.any.result c.any.ensures.ran
    (YieldsList-from_first (λ s. s) placed_segments_left {s = c.segments.result} (segments_of (laid_of c.args.layout.now)) c.segments.ensures)
    (λ x b q k. search (rules, tests))
