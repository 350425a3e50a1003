use Rattle.goblin_mach.proofs.SaidFacts.{fileset_entries_are}
use Rattle.goblin_mach.proofs.facts.said.fileset_entries_of_image.Goals as goal

pub returns : goal.returns
returns g c = fileset_entries_are c.args.image.now
