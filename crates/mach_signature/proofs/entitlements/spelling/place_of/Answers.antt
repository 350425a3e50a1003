use Rattle.std.proofs.Common.{◌∙◌}
use Rattle.mach_base.proofs.Runs.{first_len}
use Rattle.memchr.specs.Find.{is_byte}
use Rattle.mach_signature.proofs.entitlements.spelling.place_of.Goals as goal

pub returns-clause-place : goal.returns-clause-place
returns-clause-place c = c.unwrap_or.ensures ∙ first_len (is_byte c.args.byte) c.args.bytes.now c.memchr.result c.memchr.ensures
