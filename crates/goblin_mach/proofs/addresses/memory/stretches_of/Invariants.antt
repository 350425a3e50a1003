use Rattle.std.proofs.Common.{◌≡◌, map, take}
use Rattle.mach_parts.specs.SectionItems.{section_and_bytes}
use Rattle.goblin_mach.specs.AllStretches.{memory_of_section}
use Rattle.goblin_mach.proofs.addresses.memory.stretches_of.Given as goal

abbrev pub invariant-sections : goal.invariant-sections
invariant-sections g l = l.stretches.items ≡ map memory_of_section (map section_and_bytes (take l.section-index l.sections))
