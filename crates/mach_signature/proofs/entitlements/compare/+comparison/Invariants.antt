use Rattle.std.proofs.Common.{◌+◌, ◌*◌}
use Rattle.mach_signature.proofs.entitlements.compare.+comparison.Given as goal

abbrev pub decreases-same_value : goal.decreases-same_value
decreases-same_value l = 4 * l.steps + 2

abbrev pub decreases-same_dictionary : goal.decreases-same_dictionary
decreases-same_dictionary l = 4 * l.steps + 1

abbrev pub decreases-same_in_order : goal.decreases-same_in_order
decreases-same_in_order l = 4 * l.steps

abbrev pub decreases-same_under_keys : goal.decreases-same_under_keys
decreases-same_under_keys l = 4 * l.steps

abbrev pub decreases-same_under_key : goal.decreases-same_under_key
decreases-same_under_key l = 4 * l.steps + 3
