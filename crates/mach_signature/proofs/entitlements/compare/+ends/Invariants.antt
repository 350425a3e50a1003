use Rattle.std.proofs.Common.{◌+◌, ◌*◌}
use Rattle.mach_signature.proofs.entitlements.compare.+ends.Given as goal

abbrev pub decreases-values_end : goal.decreases-values_end
decreases-values_end l = 2 * l.steps

abbrev pub decreases-value_end : goal.decreases-value_end
decreases-value_end l = 2 * l.steps + 1
