use Rattle.std.proofs.Common.{◌≡◌, length}
use Rattle.mach_chained.specs.FixupCursors.{IsOverFixups}
use Rattle.mach_chained.specs.Fixups.{FixupInput}
use Rattle.mach_chained.specs.FixupsLeft.{fixups_left}
use Rattle.mach_base.specs.Text.{texts}
use Rattle.goblin_mach_c.specs.BindingsAfter.{bound_left, bound_places}
use Rattle.goblin_mach_c.proofs.bindings.next_bound.Given as goal

abbrev pub invariant-fixups : goal.invariant-fixups
invariant-fixups l = record {
  items : bound_left l.initial.walk l.segments l.base (texts l.libs) ≡ bound_left l.walk l.segments l.base (texts l.libs);
  places : bound_places l.initial.walk l.chains_at ≡ bound_places l.walk l.chains_at;
  over : (x : FixupInput) → IsOverFixups x l.initial.walk.fixups → IsOverFixups x l.walk.fixups;
  chained : l.walk.chained ≡ l.initial.walk.chained;
}

abbrev pub decreases-fixups : goal.decreases-fixups
decreases-fixups l = length (fixups_left l.walk.fixups)
