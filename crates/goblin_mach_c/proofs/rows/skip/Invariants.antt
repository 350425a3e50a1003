use Rattle.std.proofs.Common.{◌≡◌, drop}
use Rattle.goblin_mach_c.proofs.rows.skip.Given as goal

abbrev pub invariant-loop : goal.invariant-loop
invariant-loop g l = g.R.Rows.left l.rows ≡ drop l.counter (g.R.Rows.left l.fn.rows)
