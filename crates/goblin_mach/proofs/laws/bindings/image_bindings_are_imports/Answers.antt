use Rattle.goblin_mach.proofs.OneList.{report_the_same}
use Rattle.goblin_mach.proofs.laws.bindings.image_bindings_are_imports.Goals as goal

pub returns : goal.returns
returns c = report_the_same c.bindings_are_imports.ensures
