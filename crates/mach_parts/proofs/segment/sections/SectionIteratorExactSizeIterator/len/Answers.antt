use Rattle.std.proofs.Common.{◌∙◌, sym}
use Rattle.mach_parts.specs.Section.{section_item}
use Rattle.mach_base.proofs.ItemLists.{length-items_from}
use Rattle.mach_parts.proofs.segment.sections.SectionIteratorExactSizeIterator.len.Goals as goal

pub returns-clause-value : goal.returns-clause-value
returns-clause-value c =
    let it = c.args.self.now in
    c.saturating_sub.ensures ∙ sym (length-items_from (section_item it.ctx it.bytes.now it.offset) it.next_item _)
