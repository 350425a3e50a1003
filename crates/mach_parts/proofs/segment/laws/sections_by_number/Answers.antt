use Rattle.mach_parts.specs.Section.{section_item}
use Rattle.mach_base.proofs.ItemLists.{length-items_from, slice_get-items}
use Rattle.mach_parts.proofs.segment.laws.sections_by_number.Goals as goal

pub returns-clause-count : goal.returns-clause-count
returns-clause-count c = λ ctx file offset count. length-items_from (section_item ctx file offset) 0 count

pub returns-clause-item : goal.returns-clause-item
returns-clause-item c = λ ctx file offset count k inside. slice_get-items (section_item ctx file offset) count k inside
