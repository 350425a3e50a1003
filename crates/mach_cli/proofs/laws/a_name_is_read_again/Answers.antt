use Rattle.mach_cli.proofs.Reader.{read-bytes, read-name}
use Rattle.mach_cli.proofs.laws.a_name_is_read_again.Goals as goal

pub returns-clause-text : goal.returns-clause-text
returns-clause-text c = read-name

pub returns-clause-bytes : goal.returns-clause-bytes
returns-clause-bytes c = read-bytes
