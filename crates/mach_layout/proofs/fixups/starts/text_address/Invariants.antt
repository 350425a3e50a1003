use Rattle.std.proofs.Common.{◌≡◌}
use Rattle.std.specs.Prelude.{find}
use Rattle.mach_layout.specs.Fixups.{is_text}
use Rattle.mach_layout.specs.Laid.{laid_of, segments_of}
use Rattle.mach_layout.specs.PartsLeft.{placed_segments_left}
use Rattle.mach_layout.proofs.fixups.starts.text_address.Given as goal

abbrev pub invariant-segments : goal.invariant-segments
invariant-segments l = find is_text (placed_segments_left l.segment-iterator) ≡ find is_text (segments_of (laid_of l.layout))
