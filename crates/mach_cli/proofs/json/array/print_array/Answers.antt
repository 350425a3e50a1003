use Rattle.mach_cli.proofs.Arrays.{array_of}
use Rattle.mach_cli.proofs.json.array.print_array.Goals as goal

pub returns : goal.returns
returns g c =
    array_of c.args.limit (g.L.Listing.left c.args.list.now) c.in_ok-reported.reported _ _ _ _ c.in_ok-write.ensures.bytes c.in_ok-reported.ensures
    c.in_ok-write-2.ensures.bytes
