use Rattle.std.proofs.Common.{drop}
use Rattle.mach_cli.specs.ShownCalls.{manner_in, ShowsList}
use Rattle.mach_cli.proofs.Orders.{Completes}
use Rattle.mach_cli.proofs.files.Run.show_lists.Given as goal

abbrev pub invariant-lists : goal.invariant-lists
invariant-lists g l =
    let m = manner_in g.S.FileView.shows l.self in
    Completes (λ list. ShowsList m l.end) l.lists l.fn.out (drop l.list-index l.lists) l.out l.worst
