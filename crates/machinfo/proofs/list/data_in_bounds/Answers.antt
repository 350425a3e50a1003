use Rattle.mach_load.specs.TablesLeft.{data_in_code_left}
use Rattle.machinfo.proofs.InBounds.{in_bounds_few}
use Rattle.machinfo.proofs.list.data_in_bounds.Goals as goal

pub overflow_sub-past : goal.overflow_sub-past
overflow_sub-past c = rw (c.len-2.ensures.value, c.len.ensures.value, c.in_bounds-in_bounds.ensures) (in_bounds_few (data_in_code_left c.args.list))
