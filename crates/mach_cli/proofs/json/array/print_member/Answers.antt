use Rattle.mach_cli.proofs.Arrays.{member_of}
use Rattle.mach_cli.proofs.json.array.print_member.Goals as goal

pub returns : goal.returns
returns g c =
    member_of c.args.name.now c.args.limit (g.L.Listing.left c.args.list.now) c.in_ok-reported.reported _ _ _ _ c.in_ok-write.ensures.bytes
    c.in_ok-reported.ensures c.in_ok-write-2.ensures.bytes
