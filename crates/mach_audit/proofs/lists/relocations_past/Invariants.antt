use Rattle.std.proofs.Common.{◌≡◌, ◌<◌, ◌+◌, ◌-◌, ◌^◌, min}
use Rattle.std.specs.List.{sum_by}
use Rattle.mach_parts.specs.SectionItems.{sections_left}
use Rattle.mach_audit.specs.Reported.{relocations_past_of}
use Rattle.mach_audit.proofs.lists.relocations_past.Given as goal

abbrev pub invariant-sections : goal.invariant-sections
invariant-sections l =
    (min (l.past + sum_by (relocations_past_of l.ctx l.bytes) (sections_left l.item-iterator)) (2 ^ 64 - 1)
    ≡ min (sum_by (relocations_past_of l.ctx l.bytes) (sections_left l.fn.sections)) (2 ^ 64 - 1))
    × (l.past < 2 ^ 64)
