use Rattle.std.proofs.Common.{take}
use Rattle.std.specs.List.{enumerate_from}
use Rattle.machaudit.specs.Audited.{AuditsEntry}
use Rattle.mach_cli.specs.InOrder.{InOrder}
use Rattle.machaudit.proofs.SelectedEntries.{GoesOver}
use Rattle.machaudit.proofs.selection.run_entries.Given as goal

abbrev pub invariant-archs : goal.invariant-archs
invariant-archs g l =
    let call = l.fn.call in
    GoesOver l.cpu call.options.limit l.fn.bytes l.fn.archs l.index l.worst
    × InOrder (AuditsEntry g.W.Write.contents call.options l.cpu call.name.now l.fn.bytes) (take l.index (enumerate_from 0 l.fn.archs)) l.fn.out l.out l.worst
