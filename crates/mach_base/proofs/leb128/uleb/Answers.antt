use Rattle.mach_base.proofs.Unsigned.{uleb_at-front, uleb_at-no_front}
use Rattle.mach_base.proofs.leb128.uleb.Goals as goal

pub returns-in-Some-clause-value : goal.returns-in-Some-clause-value
returns-in-Some-clause-value c =
    uleb_at-front c.args.bytes.now c.in_ok-rest.rest.now c.args.place c.in-Some.len c.in-Some.value c.in_ok-rest.ensures c.in-Some.ensures.within
    c.in-Some.ensures.found

pub returns-in-None-clause-value : goal.returns-in-None-clause-value
returns-in-None-clause-value c =
    uleb_at-no_front c.args.bytes.now c.in_ok-rest.rest.now c.args.place c.in_ok-rest.ensures c.in-None.ensures.none
