use Rattle.std.proofs.Common.{◌≡◌}
use Rattle.mach_archive.specs.ArchiveViews.{members_left}
use Rattle.goblin_mach_c.specs.ArchiveFinds.{first_of_name}
use Rattle.goblin_mach_c.proofs.archive_find.first_of_name.Given as goal

abbrev pub invariant-members : goal.invariant-members
invariant-members l = record {
  can : (goal.iterator-members).can_next l.members;
  finite : (goal.iterator-members).is_finite l.members;
  same : first_of_name l.name (members_left l.members) ≡ first_of_name l.name (members_left l.fn.members);
}
