use Rattle.std.proofs.Common.{◌∙◌, sym}
use Rattle.mach_base.proofs.ItemLists.{length-items_from}
use Rattle.mach_parts.specs.ArchForms.{arch_in}
use Rattle.goblin_mach.proofs.fat_file.arches.ArchIteratorExactSizeIterator.len.Goals as goal

pub returns-clause-value : goal.returns-clause-value
returns-clause-value g c =
    let it = c.args.self.now in
    c.saturating_sub.ensures ∙ sym (length-items_from (arch_in g.R.ArchRecord.arch_form it.bytes.now) it.index _)
