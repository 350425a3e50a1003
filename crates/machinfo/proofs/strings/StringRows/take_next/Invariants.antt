use Rattle.std.proofs.Common.{◌≡◌, length}
use Rattle.mach_parts.specs.NumberedLeft.{readable_left}
use Rattle.machinfo.specs.SectionContents.{string_rows_left}
use Rattle.machinfo.proofs.strings.StringRows.take_next.Given as goal

abbrev pub invariant-sections : goal.invariant-sections
invariant-sections l = string_rows_left l.initial.self ≡ string_rows_left l.self

abbrev pub decreases-sections : goal.decreases-sections
decreases-sections l = length (readable_left l.self.sections)
