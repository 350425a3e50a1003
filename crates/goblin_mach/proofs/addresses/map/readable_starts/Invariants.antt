use Rattle.std.proofs.Common.{◌≡◌, ◌++◌}
use Rattle.mach_load.specs.TablesLeft.{starts_left}
use Rattle.goblin_mach.specs.AddressMaps.{starts_in}
use Rattle.goblin_mach.proofs.addresses.map.readable_starts.Given as goal

-- the starts so far, and those that are left, are all starts
abbrev pub invariant-starts : goal.invariant-starts
invariant-starts g l = l.found.items ++ starts_in (starts_left l.item-iterator) ≡ starts_in (starts_left l.fn.starts)
