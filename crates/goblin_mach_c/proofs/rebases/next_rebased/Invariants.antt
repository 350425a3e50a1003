use Rattle.std.proofs.Common.{◌≡◌, length}
use Rattle.mach_chained.specs.FixupCursors.{IsOverFixups}
use Rattle.mach_chained.specs.Fixups.{FixupInput}
use Rattle.mach_chained.specs.FixupsLeft.{fixups_left}
use Rattle.goblin_mach_c.specs.RebasesAfter.{rebased_left}
use Rattle.goblin_mach_c.proofs.rebases.next_rebased.Given as goal

abbrev pub invariant-fixups : goal.invariant-fixups
invariant-fixups l = record {
  items : rebased_left l.initial.walk ≡ rebased_left l.walk;
  over : (x : FixupInput) → IsOverFixups x l.initial.walk.fixups → IsOverFixups x l.walk.fixups;
  chained : l.walk.chained ≡ l.initial.walk.chained;
}

abbrev pub decreases-fixups : goal.decreases-fixups
decreases-fixups l = length (fixups_left l.walk.fixups)
