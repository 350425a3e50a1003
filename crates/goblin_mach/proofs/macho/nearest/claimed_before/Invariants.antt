use Rattle.std.proofs.Common.{◌≡◌, ◌≤◌, ◌-◌, map}
use Rattle.mach_parts.specs.Segment.{segment_view}
use Rattle.goblin_mach.specs.AddressMaps.{claimed_before}
use Rattle.goblin_mach.proofs.macho.nearest.claimed_before.Given as goal

abbrev pub invariant-segments : goal.invariant-segments
invariant-segments l = record {
  few : l.number ≤ l.upto;
  counted : l.claimed ≡ claimed_before (map segment_view l.segments) l.number;
}

abbrev pub decreases-segments : goal.decreases-segments
decreases-segments l = l.upto - l.number
