use Rattle.goblin_mach.proofs.StreamFacts.{one_list_of_rebases}
use Rattle.goblin_mach.proofs.facts.streams.one_list_of_image_rebases.Goals as goal

pub returns : goal.returns
returns c = one_list_of_rebases c.one_list_of_rebases.ensures c.one_list_of_fixups.ensures
