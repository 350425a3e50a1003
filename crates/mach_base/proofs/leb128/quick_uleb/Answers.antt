use Rattle.mach_base.proofs.Fronts.{rest_from-inside}
use Rattle.mach_base.proofs.Unsigned.{uleb_at-outside, uleb_at-front, uleb_at-moves}
use Rattle.mach_base.proofs.leb128.quick_uleb.Goals as goal

pub returns-then-place-bytes-clause-value : goal.returns-then-place-bytes-clause-value
returns-then-place-bytes-clause-value c = uleb_at-outside c.args.bytes.now c.args.place c.if-place-bytes.true

pub returns-in-Some-clause-value : goal.returns-in-Some-clause-value
returns-in-Some-clause-value c =
    let here = rest_from-inside c.args.bytes.now c.rest_at.result.now c.args.place c.if-place-bytes.false c.rest_at.ensures in
    uleb_at-front c.args.bytes.now c.rest_at.result.now c.args.place c.in-Some.len c.in-Some.value here c.in-Some.ensures.within c.in-Some.ensures.found

pub returns-in-Some-clause-after : goal.returns-in-Some-clause-after
returns-in-Some-clause-after c =
    uleb_at-moves c.args.bytes.now c.args.place c.in-Some.value _ (returns-in-Some-clause-value c)
