use Rattle.std.proofs.Common.{length}
use Rattle.mach_cli.proofs.Arrays.{Goes}
use Rattle.mach_cli.proofs.json.array.print_objects.Given as goal

abbrev pub invariant-rows : goal.invariant-rows
invariant-rows g l =
    Goes l.limit (g.L.Listing.left l.fn.list) (g.L.Listing.left l.list) l.left l.whole l.is_first (g.O.Write.contents l.fn.out) (g.O.Write.contents l.out)

abbrev pub decreases-rows : goal.decreases-rows
decreases-rows g l = length (g.L.Listing.left l.list)
