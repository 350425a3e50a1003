use Rattle.std.proofs.Common.{ℕ, List, Option}
use Rattle.mach_parts.specs.SectionItems.{sections_left}
use Rattle.mach_audit.specs.Reported.{FaultAt, HasMet, relocations_in_bounds, faults_from}
use Rattle.mach_audit.specs.declared.report.ItemList.TheVariants as lists
use Rattle.mach_audit.proofs.Goes.{GoesEach}
use Rattle.mach_audit.proofs.lists.add_relocations.Given as goal

abbrev pub invariant-sections : goal.invariant-sections
invariant-sections g l = (limit : ℕ) (items : List (Option FaultAt)) → HasMet limit items l.fn.tally
    → GoesEach limit (λ k s. faults_from (lists.Relocations l.fn.segment k) 0 (relocations_in_bounds l.fn.ctx l.fn.bytes s)) items (sections_left l.fn.sections)
    (sections_left l.item-iterator) l.section l.tally
