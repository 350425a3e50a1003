use Rattle.std.proofs.Common.{◌≡◌, ◌<◌, ◌+◌, ◌-◌, ◌^◌, min}
use Rattle.std.specs.Prelude.{sum_by}
use Rattle.mach_parts.specs.NumberedLeft.{readable_left}
use Rattle.goblin_mach.specs.ImageFacts.{facts_view}
use Rattle.machinfo.specs.Relocations.{image_relocations_past, section_relocations_past}
use Rattle.machinfo.proofs.relocations.past_in.Given as goal

abbrev pub invariant-sections : goal.invariant-sections
invariant-sections g l = record {
  fits : l.past < 2 ^ 64;
  counted : min (l.past + sum_by (section_relocations_past (facts_view l.image)) (readable_left l.section-iterator)) (2 ^ 64 - 1)
      ≡ image_relocations_past (facts_view l.image);
}
