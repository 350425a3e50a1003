use Rattle.std.proofs.Common.{ℕ, List, Option, Result, ◌<◌, ◌+◌, ◌-◌, ◌^◌, ap, arith, length}
use Rattle.mach_base.proofs.ItemLists.{length-items_from}
use Rattle.mach_base.specs.Fault.{Fault}
use Rattle.mach_parts.specs.declared.segment.section.Section.{Section}
use Rattle.mach_parts.specs.Section.{section_item}
use Rattle.mach_parts.specs.SectionItems.{sections_left, section_read}
use Rattle.mach_audit.proofs.Goes.{each_on, next_number}
use Rattle.mach_audit.specs.Reported.{FaultAt, relocations_in_bounds, faults_from}
use Rattle.mach_audit.specs.declared.report.ItemList.TheVariants as lists
use Rattle.mach_audit.proofs.lists.add_relocations.Goals as goal

pub sections-preserved : goal.sections-preserved
sections-preserved g c = λ limit items met.
    let all = c.args.sections in
    let part : ℕ → Result (Section × List ℕ) Fault → List (Option FaultAt) = λ k s. faults_from (lists.Relocations c.args.segment k) 0
    (relocations_in_bounds c.args.ctx c.args.bytes.now s) in
    let n = c.sections.section in
    let m = c.saturating_add-section.result in
    let goes = c.sections.invariant limit items met in
    let many = length-items_from (section_item all.ctx all.bytes.now all.offset) all.next_item (all.count - all.next_item) in
    let small : n + 1 < 2 ^ 64 = omega (arith, goes.count, ap length c.in-Some.ensures.steps, many) in
    each_on limit part items (sections_left all) (sections_left c.sections.item-iterator) (sections_left c.next.new.self) n m
    (section_read c.in-Some.item) c.sections.tally c.add_relocations_by.new.tally goes c.in-Some.ensures.steps c.in_ok-add_relocations_by.ensures.reported
    (next_number n m small c.saturating_add-section.ensures)
