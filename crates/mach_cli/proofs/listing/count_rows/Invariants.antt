use Rattle.std.proofs.Common.{length}
use Rattle.mach_cli.proofs.Listings.{Passes}
use Rattle.mach_cli.proofs.listing.count_rows.Given as goal

abbrev pub invariant-rows : goal.invariant-rows
invariant-rows g l = Passes l.limit (g.L.Listing.left l.fn.list) (g.L.Listing.left l.list) l.left l.whole

abbrev pub decreases-rows : goal.decreases-rows
decreases-rows g l = length (g.L.Listing.left l.list)
