use Rattle.std.proofs.Common.{◌≡◌, ◌<◌, ◌+◌, ◌-◌, ◌^◌, drop, map, min, take}
use Rattle.mach_parts.specs.Segment.{segment_view}
use Rattle.mach_audit.specs.Reported.{HasMet, relocation_faults, relocations_past}
use Rattle.mach_audit.proofs.lists.audit_relocations.Given as goal

abbrev pub invariant-loop-segment : goal.invariant-loop-segment
invariant-loop-segment g l =
    HasMet l.fn.limit (relocation_faults l.ctx l.bytes (map segment_view (take l.segment-index l.segments))) l.tally × (l.number ≡ l.segment-index)
    × (min (l.past + relocations_past l.ctx l.bytes (map segment_view (drop l.segment-index l.segments))) (2 ^ 64 - 1)
    ≡ min (relocations_past l.ctx l.bytes (map segment_view l.segments)) (2 ^ 64 - 1))
    × (l.past < 2 ^ 64)
