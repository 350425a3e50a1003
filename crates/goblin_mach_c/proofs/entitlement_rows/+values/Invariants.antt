use Rattle.std.proofs.Common.{◌+◌, ◌*◌}
use Rattle.goblin_mach_c.proofs.entitlement_rows.+values.Given as goal

abbrev pub decreases-add_values : goal.decreases-add_values
decreases-add_values l = 2 * l.steps

abbrev pub decreases-add_value : goal.decreases-add_value
decreases-add_value l = 2 * l.steps + 1
