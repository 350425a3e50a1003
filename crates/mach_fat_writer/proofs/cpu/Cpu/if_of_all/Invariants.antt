use Rattle.std.proofs.Common.{◌≡◌}
use Rattle.mach_archive.specs.ArchiveViews.{members_left}
use Rattle.mach_fat_writer.specs.CreatedEntries.{cpu_view, if_cpu_of_all}
use Rattle.mach_fat_writer.proofs.cpu.Cpu.if_of_all.Given as goal

abbrev pub invariant-members : goal.invariant-members
invariant-members l = record {
  can : (goal.iterator-members).can_next l.members;
  finite : (goal.iterator-members).is_finite l.members;
  same : if_cpu_of_all (cpu_view l.self) (members_left l.members) ≡ if_cpu_of_all (cpu_view l.self) (members_left l.fn.members);
}
