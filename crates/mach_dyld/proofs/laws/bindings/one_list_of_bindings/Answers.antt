use Rattle.mach_dyld.proofs.BindingLaws.{one_list_lem}
use Rattle.mach_dyld.proofs.laws.bindings.one_list_of_bindings.Goals as goal

pub returns : goal.returns
returns c = one_list_lem
