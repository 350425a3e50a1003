use Rattle.std.proofs.Common.{ap, arith, length}
use Rattle.mach_base.proofs.ItemLists.{length-items_from}
use Rattle.mach_parts.specs.Section.{section_item}
use Rattle.mach_parts.specs.Segment.{sections_of, segment_view}
use Rattle.machinfo.proofs.InBounds.{in_bounds_few}
use Rattle.machinfo.proofs.sections.begun.Goals as goal

pub returns : goal.returns
returns c =
    let s = segment_view c.args.segment.now in
    omega (
      arith,
      c.min.ensures,
      c.len-in_bounds.ensures.value,
      ap length c.of.ensures.left,
      in_bounds_few (sections_of s),
      length-items_from (section_item s.ctx s.file s.offset) 0 s.command.nsects,
    )
