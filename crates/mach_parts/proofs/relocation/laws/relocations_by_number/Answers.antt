use Rattle.mach_parts.specs.Relocation.{relocation_item}
use Rattle.mach_base.proofs.ItemLists.{length-items_from, slice_get-items}
use Rattle.mach_parts.proofs.relocation.laws.relocations_by_number.Goals as goal

pub returns-clause-count : goal.returns-clause-count
returns-clause-count c = λ le bytes reloff count. length-items_from (relocation_item le bytes reloff) 0 count

pub returns-clause-item : goal.returns-clause-item
returns-clause-item c = λ le bytes reloff count k inside. slice_get-items (relocation_item le bytes reloff) count k inside
