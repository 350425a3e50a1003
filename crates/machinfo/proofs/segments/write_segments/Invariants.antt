use Rattle.machinfo.specs.Summary.{WritesSome}
use Rattle.machinfo.proofs.SegmentStatus.{IsUpTo}
use Rattle.machinfo.proofs.segments.write_segments.Given as goal

abbrev pub invariant-segments : goal.invariant-segments
invariant-segments g l =
    WritesSome (g.O.Write.contents l.fn.out) (g.O.Write.contents l.out) × IsUpTo l.limit l.segments l.segment-index l.reported
