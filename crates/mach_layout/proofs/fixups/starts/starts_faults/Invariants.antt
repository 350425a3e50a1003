use Rattle.std.proofs.Common.{◌≡◌, ◌++◌, drop, slice_get}
use Rattle.std.specs.List.{filter_map, range_with_len}
use Rattle.mach_layout.specs.Fixups.{starts_fault}
use Rattle.mach_layout.specs.FixupViews.{data_view}
use Rattle.mach_layout.specs.Laid.{laid_of, segments_of}
use Rattle.mach_layout.specs.PartsLeft.{placed_segments_left}
use Rattle.mach_layout.proofs.fixups.starts.starts_faults.Given as goal

abbrev pub invariant-starts : goal.invariant-starts
invariant-starts g l = record {
  ahead : placed_segments_left l.segments ≡ drop l.k (segments_of (laid_of l.layout));
  reported : l.faults.items ≡ l.fn.faults.items
      ++ filter_map (λ k. starts_fault (data_view l.chained) l.front l.text k (slice_get (segments_of (laid_of l.layout)) k)) (range_with_len 0 l.k);
}
