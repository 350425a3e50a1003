use Rattle.mach_parts.specs.SlotViews.{indirect_left}
use Rattle.machinfo.proofs.InBounds.{in_bounds_few}
use Rattle.machinfo.proofs.list.indirect_symbols_in_bounds.Goals as goal

pub overflow_sub-past : goal.overflow_sub-past
overflow_sub-past c = rw (c.len-2.ensures.value, c.len.ensures.value, c.in_bounds-in_bounds.ensures) (in_bounds_few (indirect_left c.args.list))
