use Rattle.std.proofs.Common.{◌∙◌}
use Rattle.mach_base.proofs.Runs.{first_len}
use Rattle.memchr.specs.Find.{is_byte}
use Rattle.goblin_mach.proofs.strings.len_before_zero.Goals as goal

pub returns-clause-value : goal.returns-clause-value
returns-clause-value c = c.unwrap_or.ensures ∙ first_len (is_byte 0) c.args.bytes.now c.memchr.result c.memchr.ensures
