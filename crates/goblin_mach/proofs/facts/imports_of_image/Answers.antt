use Rattle.goblin_mach.proofs.ImageFacts.{imports_are, imports_fail}
use Rattle.goblin_mach.proofs.facts.imports_of_image.Goals as goal

pub returns-clause-listed : goal.returns-clause-listed
returns-clause-listed g c = imports_are c.args.image.now

pub returns-clause-faults : goal.returns-clause-faults
returns-clause-faults g c = imports_fail c.args.image.now
