use Rattle.std.proofs.Common.{refl}
use Rattle.mach_base.proofs.Fronts.{rest_from-inside}
use Rattle.mach_base.proofs.Runs.{text_found}
use Rattle.mach_base.proofs.texts.quick_text.Goals as goal

pub returns-clause-text : goal.returns-clause-text
returns-clause-text c =
    let here = rest_from-inside c.args.bytes.now c.rest_at.result.now c.args.place c.if-place-bytes.false c.rest_at.ensures in
    text_found c.args.bytes.now c.rest_at.result.now c.args.place _ c.text_at_front.result here refl c.text_at_front.ensures.text
