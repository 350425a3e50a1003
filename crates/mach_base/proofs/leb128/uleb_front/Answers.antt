use Rattle.std.proofs.Common.{arith, refl}
use Rattle.mach_base.proofs.FrontGroups.{IsUleb-short, IsUleb-tenth, IsUleb-too_long, IsUleb-cut}
use Rattle.mach_base.proofs.leb128.uleb_front.Goals as goal
use Rattle.mach_base.proofs.leb128.uleb_front.Goals.{then-bytes-lt10-via-then-bytes-lt10, then-bytes-lt10-via-else-bytes-lt10+then-bytes-gt1}

pub returns-in_err-groups-clause-none : goal.returns-in_err-groups-clause-none
returns-in_err-groups-clause-none c = rw c.from_residual.ensures (IsUleb-cut c.args.bytes.now c.in_err-groups.ensures.go_on)

pub returns-then-groups-lt128-clause-found : goal.returns-then-groups-lt128-clause-found
returns-then-groups-lt128-clause-found c =
    IsUleb-short c.args.bytes.now c.in_ok-groups.groups c.in_ok-groups.ensures.found c.if-groups-lt128.true

pub returns-then-bytes-lt10-clause-none : goal.returns-then-bytes-lt10-clause-none
returns-then-bytes-lt10-clause-none c =
    IsUleb-too_long c.args.bytes.now c.in_ok-groups.groups c.in_ok-groups.ensures.found c.if-groups-lt128.false (λ inside.
    elim c.then-bytes-lt10.branch [
      | then-bytes-lt10-via-then-bytes-lt10 w ↦ absurd (omega arith)
      | then-bytes-lt10-via-else-bytes-lt10+then-bytes-gt1 w ↦ w.if-bytes-gt1.true
    ])

pub returns-clause-found : goal.returns-clause-found
returns-clause-found c =
    IsUleb-tenth c.args.bytes.now c.in_ok-groups.groups c.in_ok-groups.ensures.found c.if-groups-lt128.false _ c.if-bytes-lt10.false
    c.if-bytes-gt1.false (rw c.from.ensures refl)
