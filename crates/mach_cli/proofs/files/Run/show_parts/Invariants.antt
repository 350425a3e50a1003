use Rattle.mach_cli.specs.Selected.{within_left}
use Rattle.mach_cli.specs.ShownCalls.{manner_in, ShowsPart}
use Rattle.mach_cli.proofs.Orders.{Completes}
use Rattle.mach_cli.proofs.files.Run.show_parts.Given as goal

abbrev pub invariant-parts : goal.invariant-parts
invariant-parts g l =
    let m = manner_in g.S.FileView.shows l.self in
    Completes (ShowsPart m l.file l.bytes) (within_left l.fn.parts) l.fn.out (within_left l.part-iterator) l.out l.worst
