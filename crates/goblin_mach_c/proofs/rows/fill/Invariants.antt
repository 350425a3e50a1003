use Rattle.std.proofs.Common.{◌≡◌, length}
use Rattle.goblin_mach_c.proofs.Filled.{Partly}
use Rattle.goblin_mach_c.proofs.rows.fill.Given as goal

abbrev pub invariant-loop-k : goal.invariant-loop-k
invariant-loop-k g l = Partly (g.R.Rows.left l.fn.rows) (g.R.Rows.left l.rows) l.fn.out l.out l.k × (length l.out ≡ length l.fn.out)
