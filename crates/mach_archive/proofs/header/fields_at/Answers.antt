use Rattle.mach_archive.proofs.HeadersRead.{slice_len}
use Rattle.mach_archive.proofs.header.fields_at.Goals as goal

pub unreachable-requires : goal.unreachable-requires
unreachable-requires c = c.in-Err.ensures.1 (slice_len 60 c.args.bytes.now c.args.place c.in_ok-fields.fields.now c.in_ok-fields.ensures)
