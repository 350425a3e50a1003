use Rattle.goblin_mach.proofs.TableFacts.{build_tools_are}
use Rattle.goblin_mach.proofs.facts.tables.build_tools_of_image.Goals as goal

pub returns : goal.returns
returns g c = build_tools_are c.args.image.now
