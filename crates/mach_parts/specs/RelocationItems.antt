-- What is left of an iterator over relocations.
use Rattle.std.specs.Prelude.{◌-◌, List, Result}
use Rattle.mach_base.specs.declared.error.Error.{Error}
use Rattle.mach_base.specs.Fault.{Fault}
use Rattle.mach_base.specs.Items.{items_from, read_as}
use Rattle.mach_parts.specs.Relocation.{relocation_item}
use Rattle.mach_parts.specs.declared.relocation.RelocationInfo.{RelocationInfo}
use Rattle.mach_parts.specs.declared.segment.relocations.RelocationIterator.{RelocationIterator}

-- an item, as it was returned
abbrev pub relocation_read : Result RelocationInfo Error → Result RelocationInfo Fault
relocation_read item = read_as (λ r. r) item

-- the remaining relocations
abbrev pub relocations_left : RelocationIterator → List (Result RelocationInfo Fault)
relocations_left it = items_from (relocation_item it.le it.bytes.now it.reloff) it.next_item (it.count - it.next_item)
