use Rattle.goblin_mach.proofs.OneList.{one_image_bindings}
use Rattle.goblin_mach.proofs.laws.bindings.one_list_of_image_bindings.Goals as goal

pub returns : goal.returns
returns c = one_image_bindings c.one_list_of_fixups.ensures c.one_list_of_bindings.ensures
