use Rattle.mach_chained.specs.FixupsLeft.{fixups_left}
use Rattle.mach_chained.proofs.Chained.{are_items_at_start}
use Rattle.mach_chained.proofs.header.ChainedFixups.start.Goals as goal

pub returns-clause-items : goal.returns-clause-items
unfolding fixups_left
returns-clause-items c = are_items_at_start _ _ c.before_all.ensures.ends c.before_all.ensures.pages
