use Rattle.std.proofs.Common.{◌∙◌, sym}
use Rattle.mach_parts.specs.Relocation.{relocation_item}
use Rattle.mach_base.proofs.ItemLists.{length-items_from}
use Rattle.mach_parts.proofs.segment.relocations.RelocationIteratorExactSizeIterator.len.Goals as goal

pub returns-clause-value : goal.returns-clause-value
returns-clause-value c =
    let it = c.args.self.now in
    c.saturating_sub.ensures ∙ sym (length-items_from (relocation_item it.le it.bytes.now it.reloff) it.next_item _)
