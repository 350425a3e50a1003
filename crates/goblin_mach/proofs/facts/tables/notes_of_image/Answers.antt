use Rattle.goblin_mach.proofs.TableFacts.{notes_are}
use Rattle.goblin_mach.proofs.facts.tables.notes_of_image.Goals as goal

pub returns : goal.returns
returns g c = notes_are c.args.image.now
