use Rattle.std.proofs.Common.{◌≡◌, ◌++◌, ◌-◌, replicate}
use Rattle.mach_load.specs.ThreadState.{words_at}
use Rattle.mach_load.proofs.thread.state.Given as goal

abbrev pub invariant-loop-i : goal.invariant-loop-i
invariant-loop-i l = l.state ≡ words_at l.le l.bytes l.place l.i ++ replicate (70 - l.i) 0
