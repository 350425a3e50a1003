use Rattle.std.proofs.Common.{◌+◌, ◌-◌, ◌∷◌, ap, sym, ◌∙◌}
use Rattle.mach_base.specs.Items.{items_from}
use Rattle.mach_parts.specs.Section.{section_item, section_with_data}
use Rattle.mach_base.proofs.ItemLists.{items_from-first, fewer_left, read_as-Reads}
use Rattle.mach_parts.proofs.segment.sections.SectionIteratorIterator.next.Goals as goal

pub returns-clause-steps : goal.returns-clause-steps
returns-clause-steps c =
    let it = c.args.self.now in
    items_from-first (section_item it.ctx it.bytes.now it.offset) it.next_item it.count c.if-self.false
    ∙ ap (λ found. found ∷ items_from (section_item it.ctx it.bytes.now it.offset) (it.next_item + 1) (it.count - (it.next_item + 1)))
    (ap (λ place. section_with_data it.ctx it.bytes.now place) (sym c.place_of-place.ensures) ∙ sym (read_as-Reads _ c.read_at.result _ c.read_at.ensures))

pub returns-clause-goes : goal.returns-clause-goes
returns-clause-goes c =
    let it = c.args.self.now in
    record {
      on = λ _. (tt, tt, fewer_left (section_item it.ctx it.bytes.now it.offset) it.next_item it.count c.if-self.false);
      keeps = tt;
      rests = λ _. tt;
    }
