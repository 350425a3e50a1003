use Rattle.std.proofs.Common.{◌∙◌, sym}
use Rattle.mach_base.proofs.ItemLists.{length-items_from}
use Rattle.goblin_mach.specs.FatEntry.{arch_entry_in}
use Rattle.goblin_mach.specs.FatFile.{file_view}
use Rattle.goblin_mach.proofs.fat_file.table.EntryIteratorExactSizeIterator.len.Goals as goal

pub returns-clause-value : goal.returns-clause-value
returns-clause-value g c =
    let it = c.args.self.now in
    c.saturating_sub.ensures ∙ sym (length-items_from (arch_entry_in g.R.ArchRecord.arch_form (file_view it.file.now)) it.index _)
