use Rattle.std.proofs.Common.{◌≡◌, length}
use Rattle.std.specs.List.{find}
use Rattle.goblin_mach.specs.Subjects.{lossy_segment_by}
use Rattle.goblin_mach_c.specs.CommandRows.{readable_commands_left}
use Rattle.goblin_mach_c.specs.PartRows.{rows_of, segment_row, segment_rows, shown}
use Rattle.goblin_mach_c.proofs.segment_tests.find_segment.Given as goal

abbrev pub invariant-segments : goal.invariant-segments
invariant-segments g l =
    find (g.T.SegmentTest.test l.what)
    (rows_of (λ c. shown segment_row (lossy_segment_by l.rows.what.ctx l.rows.what.bytes.now c)) (readable_commands_left l.rows.commands))
    ≡ find (g.T.SegmentTest.test l.what) (segment_rows l.bytes l.image)

abbrev pub decreases-segments : goal.decreases-segments
decreases-segments g l =
    length (rows_of (λ c. shown segment_row (lossy_segment_by l.rows.what.ctx l.rows.what.bytes.now c)) (readable_commands_left l.rows.commands))
