use Rattle.std.proofs.Common.{◌-◌, ◌∙◌, ap, arith, length, min}
use Rattle.mach_base.specs.Items.{items_from, records_in_bounds}
use Rattle.mach_base.proofs.InBounds.{in_bounds-items_from}
use Rattle.mach_parts.specs.Section.{section_item, section_place, section_size}
use Rattle.mach_parts.proofs.PastTheEnd.{section_past}
use Rattle.mach_parts.proofs.segment.sections.SectionIterator.in_bounds.Goals as goal

pub returns : goal.returns
returns c =
    let it = c.args.self.now in
    let item = section_item it.ctx it.bytes.now it.offset in
    let in_bounds = c.records_in_bounds-in_bounds.ensures
    ∙ ap (λ place. records_in_bounds (length it.bytes.now) place c.size_with.result) c.place_of-first.ensures
    ∙ ap (λ size. records_in_bounds (length it.bytes.now) (section_place it.ctx.container it.offset 0) size) c.size_with.ensures in
    ap (λ count. items_from item it.next_item (count - it.next_item)) (c.min.ensures ∙ ap (λ most. min it.count most) in_bounds)
    ∙ in_bounds-items_from item it.next_item it.count
    (records_in_bounds (length it.bytes.now) (section_place it.ctx.container it.offset 0) (section_size it.ctx.container))
    (section_past it.ctx it.bytes.now it.offset (omega (arith, c.type_inv.self)))
