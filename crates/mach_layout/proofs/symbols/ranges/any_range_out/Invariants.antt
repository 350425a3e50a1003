use Rattle.std.proofs.Common.{◌≡◌, drop}
use Rattle.mach_layout.specs.Symbols.{any_range_out}
use Rattle.mach_layout.proofs.symbols.ranges.any_range_out.Given as goal

abbrev pub invariant-loop-range : goal.invariant-loop-range
invariant-loop-range l = any_range_out l.nsyms (drop l.range-index l.ranges) ≡ any_range_out l.nsyms l.ranges
