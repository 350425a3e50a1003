-- What contracts see of a segment of a list.
use Rattle.std.proofs.Common.{◌≡◌, ℕ, List, map, slice_get}
use Rattle.std.specs.Prelude.{option_map}
use Rattle.std.proofs.lemmas.Option.{slice_get-map}
use Rattle.mach_parts.specs.Segment.{segment_view}
use Rattle.mach_parts.specs.declared.segment.Segment.{Segment}

pub segment_seen : (segments : List Segment) (k : ℕ) → slice_get (map segment_view segments) k ≡ option_map segment_view (slice_get segments k)
segment_seen = slice_get-map segment_view
