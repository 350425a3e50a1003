use Rattle.mach_signature.proofs.ExpressionLaws.{read_is, is_read}
use Rattle.mach_signature.proofs.laws.requirements.expressions_are_read.Goals as goal

pub returns-clause-read : goal.returns-clause-read
returns-clause-read c depth bytes place end x e = read_is depth bytes place (x, end) e

pub returns-clause-there : goal.returns-clause-there
returns-clause-there c depth bytes place end x is le = is_read bytes place x end is depth le
