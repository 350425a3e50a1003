use Rattle.std.proofs.Common.{length}
use Rattle.goblin_mach.proofs.addresses.stretches.+changes_of.Given as goal

abbrev pub decreases-changes_of : goal.decreases-changes_of
decreases-changes_of g l = length l.stretches.now
