use Rattle.std.proofs.Common.{◌/◌}
use Rattle.mach_base.proofs.ItemLists.{length-items_from, slice_get-items}
use Rattle.mach_load.specs.DataInCode.{data_in_code_item}
use Rattle.mach_load.proofs.laws.data_in_code_by_number.Goals as goal

pub returns-clause-count : goal.returns-clause-count
returns-clause-count c = λ le bytes dataoff datasize. length-items_from (data_in_code_item le bytes dataoff) 0 (datasize / 8)

pub returns-clause-item : goal.returns-clause-item
returns-clause-item c = λ le bytes dataoff datasize k inside. slice_get-items (data_in_code_item le bytes dataoff) (datasize / 8) k inside
