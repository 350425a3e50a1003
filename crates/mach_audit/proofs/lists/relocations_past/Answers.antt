use Rattle.std.proofs.Common.{ap, arith}
use Rattle.std.specs.List.{sum_by}
use Rattle.mach_parts.specs.SectionItems.{sections_left, section_read}
use Rattle.mach_audit.proofs.Goes.{past_more, past_over}
use Rattle.mach_audit.specs.Reported.{relocations_past_of}
use Rattle.mach_audit.proofs.lists.relocations_past.Goals as goal

pub sections-init : goal.sections-init
sections-init c =
    let same = ap (λ it. sum_by (relocations_past_of c.args.ctx c.args.bytes.now) (sections_left it)) c.into_iter-item-iterator.ensures.into_iter_gives in
    (omega (arith, same), omega arith)

pub sections-preserved : goal.sections-preserved
sections-preserved c = (
  past_more (relocations_past_of c.args.ctx c.args.bytes.now) (sections_left c.sections.item-iterator) (sections_left c.next.new.self)
      (section_read c.in-Some.item) c.sections.past c.saturating_add-past.result _ c.in-Some.ensures.steps
      (omega (arith, c.saturating_add-past.ensures, c.relocations_past_of.ensures)) c.sections.invariant.0,
  omega (arith, c.saturating_add-past.type_inv),
)

pub returns : goal.returns
returns c =
    past_over (relocations_past_of c.args.ctx c.args.bytes.now) (sections_left c.sections.item-iterator) c.sections.past _ c.in-None.ensures.steps.0
    c.sections.invariant.1 c.sections.invariant.0
