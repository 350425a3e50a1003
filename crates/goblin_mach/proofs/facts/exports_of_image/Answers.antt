use Rattle.goblin_mach.proofs.ImageFacts.{exports_are, exports_fail}
use Rattle.goblin_mach.proofs.facts.exports_of_image.Goals as goal

pub returns-clause-listed : goal.returns-clause-listed
returns-clause-listed g c = exports_are c.args.image.now

pub returns-clause-faults : goal.returns-clause-faults
returns-clause-faults g c = exports_fail c.args.image.now
