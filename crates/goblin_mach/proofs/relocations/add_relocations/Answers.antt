use Rattle.std.proofs.Common.{map, ◌-◌, length, ap, ◌∙◌, arith}
use Rattle.std.specs.Iterator.Adapters.{enumerate_count, enumerate_source}
use Rattle.mach_parts.specs.Section.{section_item}
use Rattle.mach_parts.specs.Segment.{segment_view}
use Rattle.mach_parts.specs.SectionItems.{sections_left, section_read}
use Rattle.mach_base.proofs.ItemLists.{length-items_from}
use Rattle.goblin_mach.specs.Relocations.{relocated_view}
use Rattle.goblin_mach.proofs.RelocationLists.{left-first, left-taken}
use Rattle.goblin_mach.proofs.relocations.add_relocations.Goals as goal

pub sections-init : goal.sections-init
sections-init g c =
    let it = c.into_iter.result in
    let begins = c.enumerate-number-items.ensures in
    let n = ap (λ it. enumerate_count it) c.into_iter-number-iterator.ensures.into_iter_gives ∙ begins.count in
    let left = ap (λ it. sections_left (enumerate_source it)) c.into_iter-number-iterator.ensures.into_iter_gives ∙ ap sections_left begins.source in
    record {
      fits = rw (n, left, length-items_from (section_item it.ctx it.bytes.now it.offset) it.next_item (it.count - it.next_item)) (omega arith);
      listed =
          left-first c.args.ctx c.args.bytes.now (segment_view c.args.segment.now) (map relocated_view c.args.found.now.items) _ _ n
          (left ∙ c.into_iter.ensures.into_iter_gives);
    }

pub sections-preserved : goal.sections-preserved
sections-preserved g c =
    let steps = c.in-Some.ensures.steps in
    record {
      fits = omega (arith, ap length steps.0, c.sections.invariant.fits);
      listed =
          c.sections.invariant.listed
          ∙ left-taken c.args.ctx c.args.bytes.now _ _ c.in-Some.number c.in_ok-section.section c.in_ok-section.field-0-1.now
          c.iter_relocations-relocations.result c.sections.found.items c.push.new.self.items _ _ _ steps.0 (ap section_read c.in_ok-section.was) steps.2 steps.1
          (omega (arith, c.if-section-eq0.false)) c.iter_relocations-relocations.ensures c.in_ok-push.ensures.items;
    }
