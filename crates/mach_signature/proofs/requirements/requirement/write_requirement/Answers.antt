use Rattle.mach_signature.proofs.WrittenTexts.{simple_text, other_text}
use Rattle.mach_signature.proofs.requirements.requirement.write_requirement.Goals as goal

pub returns-in-Ok : goal.returns-in-Ok
returns-in-Ok g c plain ok =
    simple_text g.W.Write.write_str_gives c.args.quotes c.args.bytes.now c.in-Ok.field-0 _ _ c.in-Ok.ensures (c.write_simple.ensures plain ok)

pub returns-in-Err : goal.returns-in-Err
returns-in-Err g c plain ok =
    other_text g.W.Write.write_str_gives c.args.quotes c.args.bytes.now _ _ _ c.in-Err.ensures (c.write.ensures.writes plain ok)
