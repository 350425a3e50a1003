use Rattle.std.proofs.Common.{◌≡◌, length}
use Rattle.goblin_mach.specs.FixupsLeft.{image_fixups_left}
use Rattle.machfixups.specs.KeptLeft.{kept_left}
use Rattle.machfixups.proofs.kept_fixups.KeptFixupsIterator.next.Given as goal

abbrev pub invariant-fixups : goal.invariant-fixups
invariant-fixups l = kept_left l.initial.self ≡ kept_left l.self

abbrev pub decreases-fixups : goal.decreases-fixups
decreases-fixups l = length (image_fixups_left l.self.fixups)
