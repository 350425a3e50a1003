use Rattle.machinfo.proofs.Some.{some}
use Rattle.machinfo.proofs.members.write_list.Goals as goal

pub returns-clause-written : goal.returns-clause-written
returns-clause-written g c = let t = c.in_ok-reported.ensures in some _ t.written

pub returns-clause-status : goal.returns-clause-status
returns-clause-status g c = c.in_ok-reported.ensures.counts
