use Rattle.mach_cli.proofs.ShownNames.{shown-text}
use Rattle.mach_cli.proofs.laws.a_name_shows_all.Goals as goal

pub returns : goal.returns
returns c = shown-text
