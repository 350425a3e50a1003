use Rattle.std.proofs.Common.{◌≡◌, map, take}
use Rattle.machsyms.specs.Letters.{letter_of}
use Rattle.machsyms.proofs.letters.section_letters.Given as goal

abbrev pub invariant-sections : goal.invariant-sections
invariant-sections g l = l.letters.items ≡ map letter_of (take l.section-index l.sections)
