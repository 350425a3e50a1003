use Rattle.mach_base.proofs.ItemLists.{items_from-first, fewer_left}
use Rattle.goblin_mach.specs.FatEntry.{arch_entry_in}
use Rattle.goblin_mach.specs.FatFile.{file_view}
use Rattle.goblin_mach.proofs.fat_file.table.EntryIteratorIterator.next.Goals as goal

pub returns-clause-steps : goal.returns-clause-steps
returns-clause-steps g c =
    let it = c.args.self.now in (
      arch_entry_in g.R.ArchRecord.arch_form (file_view it.file.now) it.index,
      items_from-first (arch_entry_in g.R.ArchRecord.arch_form (file_view it.file.now)) it.index it.file.now.narches c.if-self.false,
      c.get-item.ensures,
    )

pub returns-clause-goes : goal.returns-clause-goes
returns-clause-goes g c =
    let it = c.args.self.now in
    record {
      on = λ _. (tt, tt, fewer_left (arch_entry_in g.R.ArchRecord.arch_form (file_view it.file.now)) it.index it.file.now.narches c.if-self.false);
      keeps = tt;
      rests = λ _. tt;
    }
