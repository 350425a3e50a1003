use Rattle.std.proofs.Common.{◌-◌, ◌∙◌, ap, length, min}
use Rattle.mach_base.specs.Items.{items_from, records_in_bounds}
use Rattle.mach_base.proofs.InBounds.{in_bounds-items_from}
use Rattle.mach_parts.specs.Relocation.{relocation_item}
use Rattle.mach_parts.proofs.PastTheEnd.{relocation_past}
use Rattle.mach_parts.proofs.segment.relocations.RelocationIterator.in_bounds.Goals as goal

pub returns : goal.returns
returns c =
    let it = c.args.self.now in
    let item = relocation_item it.le it.bytes.now it.reloff in
    ap (λ count. items_from item it.next_item (count - it.next_item)) (c.min.ensures ∙ ap (λ most. min it.count most) c.records_in_bounds-in_bounds.ensures)
    ∙ in_bounds-items_from item it.next_item it.count (records_in_bounds (length it.bytes.now) it.reloff 8) (relocation_past it.le it.bytes.now it.reloff)
