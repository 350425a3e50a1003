use Rattle.std.proofs.Common.{refl}
use Rattle.mach_cli.proofs.Listings.{passes_init, passes_on}
use Rattle.mach_cli.proofs.listing.count_rows.Goals as goal

pub rows-init : goal.rows-init
rows-init g c = passes_init c.args.limit _ _ refl

pub rows-preserved : goal.rows-preserved
rows-preserved g c =
    rw c.in-Some-checked_sub.ensures.1
    (passes_on c.args.limit g.L.Listing.text _ _ (g.L.Listing.left c.next_row.new.self) c.rows.left c.rows.whole _ c.in-Some.row c.rows.invariant
    c.in-Some.ensures c.in-Some-checked_sub.ensures.0 c.is_ok-whole.ensures.value)

pub rows-preserved-in-Some-checked_sub : goal.rows-preserved-in-Some-checked_sub
rows-preserved-in-Some-checked_sub g c =
    rw c.in-Some-checked_sub.ensures.1
    (passes_on c.args.limit g.L.Listing.text _ _ (g.L.Listing.left c.next_row.new.self) c.rows.left c.rows.whole _ c.in-Some.row c.rows.invariant
    c.in-Some.ensures c.in-Some-checked_sub.ensures.0 c.is_ok-whole.ensures.value)
