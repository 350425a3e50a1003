use Rattle.mach_dyld.proofs.StreamLaws.{finds_last_rebase_set_lem}
use Rattle.mach_dyld.proofs.laws.streams.finds_last_rebase_set.Goals as goal

pub returns : goal.returns
returns c = finds_last_rebase_set_lem
