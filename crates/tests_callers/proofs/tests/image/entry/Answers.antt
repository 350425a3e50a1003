use Rattle.goblin_mach.specs.FatEntry.{entry_at}
use Rattle.goblin_mach.specs.FatFile.{file_view}
use Rattle.tests_callers.proofs.tests.image.entry.Goals as goal

pub returns : goal.returns
returns c =
    let file = file_view c.args.container.now in
    (entry_at file c.args.index, c.entries_by_number.ensures.item file c.args.index c.requires, c.get.ensures)
