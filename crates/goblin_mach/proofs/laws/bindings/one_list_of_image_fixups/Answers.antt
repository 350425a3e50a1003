use Rattle.goblin_mach.proofs.OneList.{one_image_fixups}
use Rattle.goblin_mach.proofs.laws.bindings.one_list_of_image_fixups.Goals as goal

pub returns : goal.returns
returns c = one_image_fixups c.one_list_of_fixups.ensures
