use Rattle.std.proofs.Common.{◌+◌, ◌-◌, length}
use Rattle.goblin_mach.proofs.Changes.{AreMerged}
use Rattle.goblin_mach.proofs.addresses.stretches.merged.Given as goal

abbrev pub invariant-changes : goal.invariant-changes
invariant-changes g l = AreMerged l.first l.second l.i l.j l.changes.items

abbrev pub decreases-changes : goal.decreases-changes
decreases-changes g l = (length l.first - l.i) + (length l.second - l.j)
