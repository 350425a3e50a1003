use Rattle.std.proofs.Common.{◌≡◌, length}
use Rattle.mach_parts.specs.NumberedLeft.{readable_left}
use Rattle.machinfo.specs.Relocations.{relocation_rows_left}
use Rattle.machinfo.proofs.relocations.RelocationRows.take_next.Given as goal

abbrev pub invariant-sections : goal.invariant-sections
invariant-sections g l = relocation_rows_left l.initial.self ≡ relocation_rows_left l.self

abbrev pub decreases-sections : goal.decreases-sections
decreases-sections g l = length (readable_left l.self.sections)
