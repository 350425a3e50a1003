use Rattle.std.proofs.Common.{◌≡◌}
use Rattle.goblin_mach.specs.FatFile.{archs_in, first_arch_of_cpu, file_view, archs_left_in}
use Rattle.goblin_mach.proofs.fat_file.table.FatTable.find_cputype.Given as goal

abbrev pub invariant-arches : goal.invariant-arches
invariant-arches g l =
    first_arch_of_cpu g.R.ArchRecord.arch_form l.cputype (archs_in g.R.ArchRecord.arch_form (file_view l.self))
    ≡ first_arch_of_cpu g.R.ArchRecord.arch_form l.cputype (archs_left_in g.R.ArchRecord.arch_form l.arch-iterator)
