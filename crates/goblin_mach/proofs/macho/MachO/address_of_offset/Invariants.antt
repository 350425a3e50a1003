use Rattle.std.proofs.Common.{◌≡◌, drop, map}
use Rattle.mach_parts.specs.Segment.{segment_view}
use Rattle.goblin_mach.specs.FileOffsets.{address_at_offset}
use Rattle.goblin_mach.specs.OpenImage.{segments_view}
use Rattle.goblin_mach.proofs.macho.MachO.address_of_offset.Given as goal

abbrev pub invariant-segments : goal.invariant-segments
invariant-segments g l = address_at_offset (segments_view l.self) l.offset
    ≡ address_at_offset (map segment_view (drop l.segment-index l.segment-items)) l.offset
