use Rattle.std.proofs.Common.{ap, ◌∙◌}
use Rattle.mach_base.proofs.ItemLists.{read_as-Reads}
use Rattle.machinfo.specs.Signed.{is_readable}
use Rattle.machinfo.proofs.members.write_signature.Goals as goal

pub returns-clause-status : goal.returns-clause-status
returns-clause-status g c = c.is_readable.ensures ∙ ap is_readable (read_as-Reads _ _ _ c.code_directory-answer.ensures)
