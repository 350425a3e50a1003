use Rattle.std.proofs.Common.{arith}
use Rattle.mach_base.proofs.Unsigned.{uleb_at-moves}
use Rattle.mach_base.proofs.leb128.long_uleb.Goals as goal

pub returns-in-Ok-clause-after : goal.returns-in-Ok-clause-after
returns-in-Ok-clause-after c =
    λ _. uleb_at-moves c.args.bytes.now c.args.place c.in-Ok.found.0 c.in-Ok.found.1 c.in-Ok.ensures.value

pub returns-in-Ok-clause-none : goal.returns-in-Ok-clause-none
returns-in-Ok-clause-none c =
    let moves = uleb_at-moves c.args.bytes.now c.args.place c.in-Ok.found.0 c.in-Ok.found.1 c.in-Ok.ensures.value in
    λ zero. absurd (omega (arith, moves, zero))
