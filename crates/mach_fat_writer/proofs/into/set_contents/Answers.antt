use Rattle.std.proofs.Common.{length}
use Rattle.mach_fat_writer.proofs.Set.{bytes_fit, set_more, zeros_fit}
use Rattle.mach_fat_writer.proofs.into.set_contents.Goals as goal

pub set_zeros-end-requires : goal.set_zeros-end-requires
set_zeros-end-requires g c =
    zeros_fit c.loop-entry.end c.args.entries.now c.loop-entry.entry-index (length c.loop-entry.out) _ c.gap.result c.loop-entry-test.true
    c.loop-entry.invariant.room c.gap.ensures.value

pub set-end-requires : goal.set-end-requires
set-end-requires g c =
    bytes_fit c.loop-entry.end c.args.entries.now c.loop-entry.entry-index (length c.loop-entry.out) _ c.gap.result c.set_zeros-end.result
    (length c.set_zeros-end.new.out) c.loop-entry-test.true c.loop-entry.invariant.room c.gap.ensures.value c.set_zeros-end.ensures.end
    c.set_zeros-end.ensures.len

pub loop-entry-preserved : goal.loop-entry-preserved
loop-entry-preserved g c =
    set_more g.R.FatRecord.form c.args.entries.now c.args.from c.args.out.now c.loop-entry.end c.loop-entry.entry-index c.loop-entry.out _ c.gap.result
    c.set_zeros-end.result c.set-end.result c.set_zeros-end.new.out c.set-end.new.out c.loop-entry-test.true c.loop-entry.invariant c.gap.ensures.value
    c.set_zeros-end.ensures.end
    (record { front = c.set_zeros-end.ensures.front; rest = c.set_zeros-end.ensures.rest; long = c.set_zeros-end.ensures.len }) c.set-end.ensures.end
    (record { front = c.set-end.ensures.front; rest = c.set-end.ensures.rest; long = c.set-end.ensures.len })
