use Rattle.std.proofs.Common.{sym}
use Rattle.mach_cli.proofs.Listings.{rows_and_ends}
use Rattle.mach_cli.proofs.listing.print_listing.Goals as goal

pub returns : goal.returns
returns g c =
    rw (sym c.past_name-name.ensures, sym c.past-past.ensures)
    (rows_and_ends c.args.word.now c.args.limit c.args.left _ _ _ c.in_ok-reported.reported _ _ _ _ c.in_ok-reported.ensures c.in_ok-print_cut.ensures
    c.in_ok-print_past.ensures)
