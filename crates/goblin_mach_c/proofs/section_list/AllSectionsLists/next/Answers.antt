use Rattle.std.proofs.Common.{◌∙◌, Ok, Err, sym, ap}
use Rattle.mach_base.specs.Fault.{fault_of}
use Rattle.mach_parts.specs.SectionItems.{section_and_bytes, section_read}
use Rattle.goblin_mach_c.specs.SectionRows.{section_row}
use Rattle.goblin_mach_c.specs.declared.sections.gm_section.{gm_section}
use Rattle.goblin_mach_c.proofs.ListedParts.{section_first}
use Rattle.goblin_mach_c.proofs.section_list.AllSectionsLists.next.Goals as goal

pub returns-in-Ok : goal.returns-in-Ok
returns-in-Ok c =
    let p = c.args.part.now in
    let found = section_and_bytes c.in-Ok.field-0 in (
      (p.command, p.index, found),
      section_first c.args.self.now.ctx c.args.self.now.bytes.now p (Ok found) c.if-part.false (sym c.read-found.ensures ∙ ap section_read c.in-Ok.is),
      ap (λ (s : gm_section). record { section = s; command = p.command; number = 0; index = p.index; reserved = 0 })
          (c.section_row-section.ensures ∙ ap (λ r. section_row (section_read r)) c.in-Ok.is),
    )

pub returns-in-Err : goal.returns-in-Err
returns-in-Err c =
    let p = c.args.part.now in
    let f = fault_of c.in-Err.field-0 in (
      f,
      _,
      section_first c.args.self.now.ctx c.args.self.now.bytes.now p (Err f) c.if-part.false (sym c.read-found.ensures ∙ ap section_read c.in-Err.is),
      ap (λ (s : gm_section). record { section = s; command = 0; number = 0; index = 0; reserved = 0 })
          (c.section_row-section.ensures ∙ ap (λ r. section_row (section_read r)) c.in-Err.is),
    )
