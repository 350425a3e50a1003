use Rattle.std.proofs.Common.{arith}
use Rattle.mach_load.proofs.Words.{one_more}
use Rattle.mach_load.proofs.thread.state.Goals as goal

pub loop-i-preserved : goal.loop-i-preserved
loop-i-preserved c =
    one_more c.args.le c.args.bytes.now c.args.place c.loop-i.i c.u32_at.result c.loop-i.state (omega arith) c.u32_at.ensures c.loop-i.invariant
