use Rattle.std.proofs.Common.{◌≡◌, ◌++◌, ◌-◌}
use Rattle.mach_layout.specs.Containers.{slices_from, slices_of, slice_count}
use Rattle.mach_layout.proofs.containers.slices_of.Given as goal

abbrev pub invariant-loop-number : goal.invariant-loop-number
invariant-loop-number g l =
    l.slices.items ++ slices_from g.R.ArchRecord.arch_form l.bytes l.number (slice_count l.bytes - l.number)
    ≡ slices_of g.R.ArchRecord.arch_form l.bytes
