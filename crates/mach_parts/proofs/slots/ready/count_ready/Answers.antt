use Rattle.std.proofs.Common.{arith}
use Rattle.std.proofs.Math.Nat.{mul-le-mul_right}
use Rattle.mach_parts.proofs.slots.ready.count_ready.Goals as goal

pub returns-clause-addresses : goal.returns-clause-addresses
returns-clause-addresses c =
    let fewer = mul-le-mul_right {m = c.min-2.result} {n = c.count_addressed.result} c.args.run.now.len (omega (arith, c.min-2.ensures)) in
    omega (arith, fewer, c.count_addressed.ensures)
