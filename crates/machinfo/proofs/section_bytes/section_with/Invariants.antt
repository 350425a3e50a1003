use Rattle.std.proofs.Common.{◌≡◌}
use Rattle.std.specs.Prelude.{find}
use Rattle.mach_parts.specs.NumberedLeft.{readable_left}
use Rattle.goblin_mach.specs.ImageFacts.{facts_view}
use Rattle.machinfo.specs.SectionBytes.{has_both_names, section_so_named}
use Rattle.machinfo.proofs.section_bytes.section_with.Given as goal

-- what is found of all is what is found of those that are left
abbrev pub invariant-sections : goal.invariant-sections
invariant-sections g l = section_so_named l.name (facts_view l.image) ≡ find (has_both_names l.name) (readable_left l.found-iterator)
