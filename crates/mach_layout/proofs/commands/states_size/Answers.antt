use Rattle.std.proofs.Common.{◌<◌, ◌+◌, ◌*◌, length, inl, inr, arith}
use Rattle.mach_layout.proofs.States.{stopped, went_on, ended}
use Rattle.mach_layout.proofs.commands.states_size.Goals as goal

pub returns-in_default-clause-value : goal.returns-in_default-clause-value
returns-in_default-clause-value c =
    let inv = c.loop-rest.invariant in
    let short : length c.loop-rest.rest.now < 8 + 4 * c.u32_at-words.result =
    elim c.in_default.ensures.lookup.0 [ inl out ↦ out | inr never ↦ absurd (omega arith) ]
    in
    stopped inv.0 _ _ _ c.u32_at-words.result _ inv.2 c.u32_at-words.ensures short

pub loop-rest-preserved : goal.loop-rest-preserved
loop-rest-preserved c =
    let inv = c.loop-rest.invariant in
    let found = c.in-Some.ensures.lookup.0 in
    let next = went_on inv.0 _ _ _ c.in-Some.next.now c.u32_at-words.result _ inv.1 c.loop-rest-test.true inv.2 c.u32_at-words.ensures found.0 found.2 in
    (next.0, next.1, next.2, omega (arith, found.3, inv.3))

pub returns-clause-value : goal.returns-clause-value
returns-clause-value c =
    let inv = c.loop-rest.invariant in
    ended inv.0 _ _ _ _ inv.2 c.loop-rest-test.false
