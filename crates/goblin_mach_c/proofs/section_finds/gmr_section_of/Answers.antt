use Rattle.std.proofs.Common.{◌≡◌, Ok, sym}
use Rattle.mach_parts.specs.SectionRecord.{section_by_number}
use Rattle.goblin_mach_c.proofs.FactsAfter.{finds_section}
use Rattle.goblin_mach_c.proofs.section_finds.gmr_section_of.Goals as goal

pub returns-in-Ok-section_of-clause-found : goal.returns-in-Ok-section_of-clause-found
returns-in-Ok-section_of-clause-found c = λ _.
    finds_section c.args.bytes.now c.args.image.now.offset c.in-Ok.found c.in-Ok.ensures.opened (λ ss found. Ok found ≡ section_by_number ss c.args.number)
    c.in-Ok-section_of.here c.row_of.result (sym c.in-Ok-section_of.ensures) c.row_of.ensures
