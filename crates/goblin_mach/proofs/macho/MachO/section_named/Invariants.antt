use Rattle.std.proofs.Common.{◌≡◌}
use Rattle.std.specs.Prelude.{find}
use Rattle.mach_parts.specs.NumberedLeft.{readable_left}
use Rattle.goblin_mach.specs.NamedParts.{is_section, section_of_name}
use Rattle.goblin_mach.specs.OpenImage.{segments_view}
use Rattle.goblin_mach.proofs.macho.MachO.section_named.Given as goal

abbrev pub invariant-sections : goal.invariant-sections
invariant-sections g l =
    section_of_name l.segment l.section (segments_view l.self) ≡ find (is_section l.segment l.section) (readable_left l.found-iterator)
