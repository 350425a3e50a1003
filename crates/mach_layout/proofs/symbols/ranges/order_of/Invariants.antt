use Rattle.std.proofs.Common.{◌≡◌, ◌<◌, ◌^◌, drop}
use Rattle.mach_layout.specs.Symbols.{order_from}
use Rattle.mach_layout.proofs.symbols.ranges.order_of.Given as goal

abbrev pub invariant-loop-range : goal.invariant-loop-range
invariant-loop-range l = record {
  fits : l.at < 2 ^ 34;
  ordered : order_from l.nsyms l.table l.at (drop l.range-index l.ranges) ≡ order_from l.nsyms l.table 0 l.ranges;
}
