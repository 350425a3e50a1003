use Rattle.mach_parts.specs.SectionItems.{sections_left}
use Rattle.machinfo.proofs.InBounds.{in_bounds_few}
use Rattle.machinfo.proofs.segments.SectionList.of.Goals as goal

pub overflow_sub-past : goal.overflow_sub-past
overflow_sub-past c =
    rw (c.len-2.ensures.value, c.len.ensures.value, c.in_bounds-sections.ensures) (in_bounds_few (sections_left c.into_iter-all.result))
