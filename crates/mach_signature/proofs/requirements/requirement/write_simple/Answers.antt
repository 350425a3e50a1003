use Rattle.mach_signature.proofs.WrittenTexts.{simple_written}
use Rattle.mach_signature.proofs.requirements.requirement.write_simple.Goals as goal

pub returns : goal.returns
returns g c plain ok =
    simple_written g.W.Write.write_str_gives c.args.quotes c.args.bytes.now c.in_ok-write_at.field-0 _ _ (c.in_ok-write_at.ensures plain)
