use Rattle.std.proofs.Common.{◌≡◌}
use Rattle.mach_parts.specs.SectionRecord.{section_holding}
use Rattle.goblin_mach_c.proofs.FactsAfter.{finds_section}
use Rattle.goblin_mach_c.proofs.section_finds.gmr_section_at.Goals as goal

pub returns-in-Ok-clause-found : goal.returns-in-Ok-clause-found
returns-in-Ok-clause-found c = λ _.
    finds_section c.args.bytes.now c.args.image.now.offset c.in-Ok.found c.in-Ok.ensures.opened (λ ss found. found ≡ section_holding ss c.args.address)
    c.section_at.result c.row_of.result c.section_at.ensures c.row_of.ensures
