-- What is left of an iterator over sections.
use Rattle.std.specs.Prelude.{ℕ, ◌-◌, List, Result}
use Rattle.std.specs.Borrow.{Bor}
use Rattle.mach_base.specs.declared.error.Error.{Error}
use Rattle.mach_base.specs.Fault.{Fault}
use Rattle.mach_base.specs.Items.{items_from, read_as}
use Rattle.mach_parts.specs.Section.{section_item}
use Rattle.mach_parts.specs.declared.segment.section.Section.{Section}
use Rattle.mach_parts.specs.declared.segment.sections.SectionIterator.{SectionIterator}

-- a section and the bytes of its data
abbrev pub section_and_bytes : Section × Bor (List ℕ) → Section × List ℕ
section_and_bytes found = (found.0, found.1.now)

-- an item, as it was returned
abbrev pub section_read : Result (Section × Bor (List ℕ)) Error → Result (Section × List ℕ) Fault
section_read item = read_as section_and_bytes item

-- the remaining sections, with their data
abbrev pub sections_left : SectionIterator → List (Result (Section × List ℕ) Fault)
sections_left it = items_from (section_item it.ctx it.bytes.now it.offset) it.next_item (it.count - it.next_item)
