use Rattle.std.proofs.Common.{rules, Ok}
use Rattle.std.proofs.lemmas.Result.{err_from_is_err_and}
use Rattle.goblin_mach.proofs.FatEntries.{OpensEntry-refused, arch_entry_in-none, arch_entry_in-record}
use Rattle.goblin_mach.specs.FatFile.{file_view}
use Rattle.goblin_mach.proofs.fat_file.table.FatTable.get.Goals as goal

pub returns-then-index-self : goal.returns-then-index-self
returns-then-index-self g c =
    OpensEntry-refused _ _ (arch_entry_in-none g.R.ArchRecord.arch_form (file_view c.args.self.now) c.args.index (search rules))

pub returns-in_err-arch : goal.returns-in_err-arch
returns-in_err-arch g c =
    let p = err_from_is_err_and c.from_residual.result c.from_residual.ensures.1 in
    rw (p.1, p.2) (OpensEntry-refused _ _
    (arch_entry_in-record g.R.ArchRecord.arch_form (file_view c.args.self.now) c.args.index _ (search rules) c.in_err-arch.ensures))

pub returns : goal.returns
returns g c =
    let form = g.R.ArchRecord.arch_form in
    let is = arch_entry_in-record form (file_view c.args.self.now) c.args.index (Ok c.in_ok-arch.arch) (search rules) c.in_ok-arch.ensures in
    rw is (rw c.entry_slice.ensures at c.open.ensures)
