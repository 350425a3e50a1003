use Rattle.mach_parts.specs.RelocationItems.{relocations_left}
use Rattle.machinfo.proofs.InBounds.{in_bounds_few}
use Rattle.machinfo.proofs.relocations.past_of.Goals as goal

pub overflow_sub-result : goal.overflow_sub-result
overflow_sub-result g c =
    rw (c.len-2.ensures.value, c.len.ensures.value, c.in_bounds.ensures) (in_bounds_few (relocations_left c.claimed_by-all.result))
