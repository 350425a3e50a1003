use Rattle.mach_chained.proofs.BindingLists.{faulty_have_none}
use Rattle.mach_chained.proofs.laws.faulty_bindings_have_no_list.Goals as goal

pub returns : goal.returns
returns c = faulty_have_none
