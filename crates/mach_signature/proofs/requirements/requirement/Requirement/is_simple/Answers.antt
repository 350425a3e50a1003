use Rattle.std.proofs.Common.{◌∙◌}
use Rattle.mach_signature.proofs.Simple.{simple_if_ended}
use Rattle.mach_signature.proofs.requirements.requirement.Requirement.is_simple.Goals as goal

pub returns : goal.returns
returns c = c.is_ok.ensures.value ∙ simple_if_ended c.args.self.now.bytes.now c.simple_end.result c.simple_end.ensures
