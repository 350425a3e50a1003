use Rattle.mach_chained.proofs.BindingLists.{one_list_of_bindings}
use Rattle.mach_chained.proofs.laws.one_list_of_bindings.Goals as goal

pub returns : goal.returns
returns c = one_list_of_bindings
