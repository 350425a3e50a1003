use Rattle.std.proofs.Common.{◌≡◌, drop, map}
use Rattle.mach_parts.specs.Segment.{segment_view}
use Rattle.goblin_mach.specs.FileOffsets.{offset_at_address}
use Rattle.goblin_mach.specs.OpenImage.{segments_view}
use Rattle.goblin_mach.proofs.macho.MachO.offset_of_address.Given as goal

abbrev pub invariant-segments : goal.invariant-segments
invariant-segments g l = offset_at_address (segments_view l.self) l.address
    ≡ offset_at_address (map segment_view (drop l.segment-index l.segment-items)) l.address
