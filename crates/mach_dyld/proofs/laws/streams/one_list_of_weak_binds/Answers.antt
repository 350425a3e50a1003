use Rattle.mach_dyld.proofs.StreamLaws.{one_list_of_weak_binds_lem}
use Rattle.mach_dyld.proofs.laws.streams.one_list_of_weak_binds.Goals as goal

pub returns : goal.returns
returns c = one_list_of_weak_binds_lem
