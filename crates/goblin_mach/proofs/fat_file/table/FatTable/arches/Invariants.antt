use Rattle.std.proofs.Common.{◌≡◌}
use Rattle.mach_base.specs.Items.{all_read}
use Rattle.mach_base.proofs.AllRead.{onto}
use Rattle.goblin_mach.specs.FatFile.{archs_in, file_view, archs_left_in}
use Rattle.goblin_mach.proofs.fat_file.table.FatTable.arches.Given as goal

abbrev pub invariant-arches : goal.invariant-arches
invariant-arches g l =
    all_read (archs_in g.R.ArchRecord.arch_form (file_view l.self))
    ≡ onto l.arches.items (all_read (archs_left_in g.R.ArchRecord.arch_form l.arch-iterator))
