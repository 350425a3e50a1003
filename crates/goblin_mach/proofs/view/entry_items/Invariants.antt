use Rattle.std.proofs.Common.{◌-◌, ◌++◌, List, Result}
use Rattle.mach_base.specs.declared.error.Error.{Error}
use Rattle.mach_base.specs.Items.{items_from}
use Rattle.goblin_mach.specs.FatEntry.{entry_at, entries_of}
use Rattle.goblin_mach.specs.FatFile.{file_view}
use Rattle.goblin_mach.specs.View.{AreViewItems}
use Rattle.goblin_mach.specs.declared.view.LinkView.{LinkView}
use Rattle.goblin_mach.proofs.view.entry_items.Given as goal

abbrev pub invariant-loop-index : goal.invariant-loop-index
invariant-loop-index g l =
    (rest : List (Result (LinkView g.row.B.Denot) Error)) → AreViewItems (items_from (entry_at (file_view l.container)) l.index (l.container.narches - l.index))
    rest
    → AreViewItems (entries_of (file_view l.container)) (l.items.items ++ rest)
