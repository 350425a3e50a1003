use Rattle.goblin_mach.proofs.Walked.{walked_exports, walked_to_fault, walked_to_end}
use Rattle.goblin_mach.proofs.facts.walked_exports_of_image.Goals as goal

pub returns-clause-listed : goal.returns-clause-listed
returns-clause-listed g c = walked_exports c.args.image.now

pub returns-clause-faults : goal.returns-clause-faults
returns-clause-faults g c = walked_to_fault c.args.image.now

pub returns-clause-cut : goal.returns-clause-cut
returns-clause-cut g c = walked_to_end c.args.image.now
