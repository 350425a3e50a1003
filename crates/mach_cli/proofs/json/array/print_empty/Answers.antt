use Rattle.std.proofs.Common.{refl}
use Rattle.mach_cli.proofs.Arrays.{member_of, no_array}
use Rattle.mach_cli.proofs.json.array.print_empty.Goals as goal

pub returns : goal.returns
returns g c =
    member_of c.args.name.now c.args.limit _ _ _ _ _ _ c.in_ok-write.ensures.bytes
    (no_array c.args.limit _ _ _ c.in_ok-write-2.ensures.bytes (refl, refl, refl)) c.in_ok-write-3.ensures.bytes
