use Rattle.mach_layout.proofs.OneArrangement.{one_shared}
use Rattle.goblin_mach.proofs.OneListOfFaults.{one_list}
use Rattle.goblin_mach.proofs.laws.layout.one_list_of_layout_faults.Goals as goal

pub returns : goal.returns
returns c =
    one_list c.one_list_of_bindings.ensures c.one_list_of_rebases.ensures c.one_list_of_weak_binds.ensures c.starts_are_one_list.ensures one_shared
