use Rattle.std.proofs.Common.{drop}
use Rattle.mach_cli.specs.ShownCalls.{manner_in, ShowsNamed}
use Rattle.mach_cli.proofs.Orders.{Completes}
use Rattle.mach_cli.proofs.files.Run.show_files.Given as goal

abbrev pub invariant-files : goal.invariant-files
invariant-files g l =
    let m = manner_in g.S.FileView.shows l.self in
    Completes (λ file. ShowsNamed m file.now) l.files l.fn.out (drop l.file-index l.files) l.out l.worst
