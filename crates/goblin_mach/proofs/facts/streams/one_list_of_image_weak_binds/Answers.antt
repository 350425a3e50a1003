use Rattle.goblin_mach.proofs.StreamFacts.{one_list_of_weak}
use Rattle.goblin_mach.proofs.facts.streams.one_list_of_image_weak_binds.Goals as goal

pub returns : goal.returns
returns c = one_list_of_weak c.one_list_of_weak_binds.ensures
