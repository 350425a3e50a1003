use Rattle.std.proofs.Common.{rules, w64}
use mir.Val.{SFits}
use Rattle.std.proofs.lemmas.Int.{to_z-of_z}
use Rattle.mach_base.proofs.Signed.{sleb_at-front, sleb_at-no_front}
use Rattle.mach_base.proofs.leb128.sleb.Goals as goal

pub returns-in-None-clause-value : goal.returns-in-None-clause-value
returns-in-None-clause-value c =
    sleb_at-no_front c.args.bytes.now c.in_ok-rest.rest.now c.args.place c.in_ok-rest.ensures c.in-None.ensures.none

pub returns-in-Some-clause-value : goal.returns-in-Some-clause-value
returns-in-Some-clause-value c =
    let fits : SFits w64 c.in-Some.value = search rules in
    rw (to_z-of_z w64 c.in-Some.value fits)
    (sleb_at-front c.args.bytes.now c.in_ok-rest.rest.now c.args.place c.in-Some.len c.in-Some.value c.in_ok-rest.ensures c.in-Some.ensures.within
    c.in-Some.ensures.found)
