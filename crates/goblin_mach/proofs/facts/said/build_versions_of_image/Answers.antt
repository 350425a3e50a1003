use Rattle.goblin_mach.proofs.SaidFacts.{build_versions_are}
use Rattle.goblin_mach.proofs.facts.said.build_versions_of_image.Goals as goal

pub returns : goal.returns
returns g c = build_versions_are c.args.image.now
