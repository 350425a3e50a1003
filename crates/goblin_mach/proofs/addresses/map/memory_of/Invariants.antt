use Rattle.std.proofs.Common.{◌≡◌, map, take}
use Rattle.goblin_mach.specs.AddressMaps.{memory_of_mapped}
use Rattle.goblin_mach.proofs.addresses.map.memory_of.Given as goal

abbrev pub invariant-sections : goal.invariant-sections
invariant-sections g l = l.stretches.items ≡ map memory_of_mapped (take l.mapped-index l.sections)
