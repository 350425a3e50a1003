use Rattle.goblin_mach.proofs.TableFacts.{linker_options_are}
use Rattle.goblin_mach.proofs.facts.tables.linker_options_of_image.Goals as goal

pub returns : goal.returns
returns g c = linker_options_are c.args.image.now
