use Rattle.mach_layout.proofs.OneListOfSlices.{one_table}
use Rattle.mach_layout.proofs.laws.containers.one_list_of_container_faults.Goals as goal

pub returns : goal.returns
returns g c = one_table _ g.R.ArchRecord.arch_form
