use Rattle.std.proofs.Common.{refl}
use Rattle.mach_chained.specs.BindingViews.{chained_bindings_left}
use Rattle.mach_chained.proofs.bindings.ChainedBindIterator.end.Goals as goal

pub returns-clause-items : goal.returns-clause-items
unfolding chained_bindings_left
returns-clause-items c = refl

pub returns-clause-ended : goal.returns-clause-ended
unfolding chained_bindings_left
returns-clause-ended c = record { ended = refl; left = refl }
