use Rattle.std.proofs.Common.{inl, inr, arith, rules, w64}
use mir.Val.{SFits}
use Rattle.std.proofs.lemmas.Int.{to_z-of_z}
use Rattle.mach_base.proofs.FrontGroups.{IsSleb-short, IsSleb-zero, IsSleb-ones, IsSleb-too_long, IsSleb-cut}
use Rattle.mach_base.proofs.leb128.sleb_front.Goals as goal

pub returns-in_err-groups-clause-none : goal.returns-in_err-groups-clause-none
returns-in_err-groups-clause-none c = rw c.from_residual.ensures (IsSleb-cut c.args.bytes.now c.in_err-groups.ensures.go_on)

pub returns-then-groups-lt128-clause-found : goal.returns-then-groups-lt128-clause-found
returns-then-groups-lt128-clause-found c =
    let fits : SFits w64 c.signed.result = search rules in
    rw (to_z-of_z w64 c.signed.result fits)
    (IsSleb-short c.args.bytes.now c.in_ok-groups.groups c.in_ok-groups.ensures.found c.signed.result c.signed.ensures c.if-groups-lt128.true)

pub returns-then-bytes-lt10-clause-none : goal.returns-then-bytes-lt10-clause-none
returns-then-bytes-lt10-clause-none c =
    IsSleb-too_long c.args.bytes.now c.in_ok-groups.groups c.in_ok-groups.ensures.found c.if-groups-lt128.false (λ inside. absurd (omega arith))

pub returns-in-0-clause-found : goal.returns-in-0-clause-found
returns-in-0-clause-found c =
    let fits : SFits w64 c.signed-in-0.result = search rules in
    rw (to_z-of_z w64 c.signed-in-0.result fits)
    (IsSleb-zero c.args.bytes.now c.in_ok-groups.groups c.in_ok-groups.ensures.found c.if-groups-lt128.false c.signed-in-0.result
    c.if-bytes-lt10.false c.in-0.is c.signed-in-0.ensures)

pub returns-in-127-clause-found : goal.returns-in-127-clause-found
returns-in-127-clause-found c =
    let fits : SFits w64 c.signed-in-127.result = search rules in
    rw (to_z-of_z w64 c.signed-in-127.result fits)
    (IsSleb-ones c.args.bytes.now c.in_ok-groups.groups c.in_ok-groups.ensures.found c.if-groups-lt128.false c.signed-in-127.result
    c.if-bytes-lt10.false c.in-127.is c.signed-in-127.ensures)

pub returns-in_default-clause-none : goal.returns-in_default-clause-none
returns-in_default-clause-none c =
    IsSleb-too_long c.args.bytes.now c.in_ok-groups.groups c.in_ok-groups.ensures.found c.if-groups-lt128.false (λ inside sign.
    elim sign [ inl zero ↦ omega (arith, zero) | inr ones ↦ omega (arith, ones) ])
