use Rattle.std.proofs.Common.{◌≡◌, ◌++◌, drop}
use Rattle.std.specs.Prelude.{filter_map}
use Rattle.mach_layout.specs.Containers.{slice_range}
use Rattle.mach_layout.proofs.containers.slice_ranges.Given as goal

abbrev pub invariant-loop-slice : goal.invariant-loop-slice
invariant-loop-slice g l =
    let kept = filter_map (slice_range l.which) in l.ranges.items ++ kept (drop l.slice-index l.slices) ≡ kept l.slices
