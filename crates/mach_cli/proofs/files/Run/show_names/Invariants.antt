use Rattle.std.proofs.Common.{drop}
use Rattle.mach_cli.specs.ShownCalls.{manner_in, ShowsListed}
use Rattle.mach_cli.proofs.Orders.{Completes}
use Rattle.mach_cli.proofs.files.Run.show_names.Given as goal

abbrev pub invariant-names : goal.invariant-names
invariant-names g l =
    let m = manner_in g.S.FileView.shows l.self in
    Completes (λ name. ShowsListed m name.now) l.names l.fn.out (drop l.index l.names) l.out l.worst
