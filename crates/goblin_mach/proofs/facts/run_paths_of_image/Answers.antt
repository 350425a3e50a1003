use Rattle.goblin_mach.proofs.ImageFacts.{run_paths_are}
use Rattle.goblin_mach.proofs.facts.run_paths_of_image.Goals as goal

pub returns : goal.returns
returns g c = run_paths_are c.args.image.now
