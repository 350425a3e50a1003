use Rattle.std.proofs.Common.{◌≡◌}
use Rattle.mach_dyld.specs.BindingFaults.{has_fault}
use Rattle.mach_load.specs.TablesLeft.{starts_left}
use Rattle.goblin_mach.proofs.layout.lists.is_start_fault_among.Given as goal

abbrev pub invariant-starts : goal.invariant-starts
invariant-starts l = has_fault (starts_left l.start-iterator) ≡ has_fault (starts_left l.fn.starts)
