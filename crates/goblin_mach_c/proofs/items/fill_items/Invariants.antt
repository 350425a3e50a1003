use Rattle.std.proofs.Common.{◌≡◌, length}
use Rattle.goblin_mach_c.proofs.Said.{SaidPartly}
use Rattle.goblin_mach_c.proofs.items.fill_items.Given as goal

abbrev pub invariant-loop-k : goal.invariant-loop-k
invariant-loop-k g l =
    ((x : g.R.ItemRows.Source) → g.R.ItemRows.IsOver x l.fn.rows
    → SaidPartly (g.R.ItemRows.Says x) (g.R.ItemRows.left l.fn.rows) (g.R.ItemRows.left l.rows) l.fn.out l.out l.k × g.R.ItemRows.IsOver x l.rows)
    × (length l.out ≡ length l.fn.out)
