use Rattle.std.proofs.Common.{◌≡◌}
use Rattle.goblin_mach.specs.FatFile.{archs_in, archs_left_in, file_view}
use Rattle.mach_cli.specs.Cpus.{is_of_cpu}
use Rattle.mach_resolve.specs.Cpu.{first_arch_for}
use Rattle.machresolve.proofs.table.find_entry.Given as goal

abbrev pub invariant-arches : goal.invariant-arches
invariant-arches g l =
    first_arch_for g.R.ArchRecord.arch_form (is_of_cpu l.cpu) (archs_in g.R.ArchRecord.arch_form (file_view l.container))
    ≡ first_arch_for g.R.ArchRecord.arch_form (is_of_cpu l.cpu) (archs_left_in g.R.ArchRecord.arch_form l.arch-iterator)
