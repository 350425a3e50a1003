use Rattle.std.proofs.Common.{◌≡◌, drop, map}
use Rattle.mach_parts.specs.Segment.{segment_view}
use Rattle.mach_parts.specs.Segments.{segments_in}
use Rattle.goblin_mach.specs.NamedParts.{segment_of_name}
use Rattle.goblin_mach.specs.OpenImage.{segments_view}
use Rattle.goblin_mach.proofs.macho.MachO.segment_named.Given as goal

abbrev pub invariant-segments : goal.invariant-segments
invariant-segments g l =
    segment_of_name l.name (segments_view l.self) ≡ segment_of_name l.name (map segment_view (drop l.segment-index l.segment-items))
