use Rattle.goblin_mach.proofs.TableFacts.{function_starts_are}
use Rattle.goblin_mach.proofs.facts.tables.function_starts_of_image.Goals as goal

pub returns : goal.returns
returns g c = function_starts_are c.args.image.now
