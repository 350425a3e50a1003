use Rattle.goblin_mach.proofs.TableFacts.{data_in_code_are}
use Rattle.goblin_mach.proofs.facts.tables.data_in_code_of_image.Goals as goal

pub returns : goal.returns
returns g c = data_in_code_are c.args.image.now
