use Rattle.goblin_mach.proofs.StreamFacts.{rebases_of_fixups}
use Rattle.goblin_mach.proofs.facts.streams.rebases_are_fixups_without_opcodes.Goals as goal

pub returns : goal.returns
returns c = rebases_of_fixups c.one_list_of_fixups.ensures
