use Rattle.std.proofs.Common.{◌≡◌, ◌++◌, drop}
use Rattle.std.specs.List.{filter_map}
use Rattle.mach_layout.specs.Laid.{laid_of}
use Rattle.mach_layout.specs.Symbols.{range_kind}
use Rattle.mach_layout.proofs.symbols.ranges.symbol_kind_faults.Given as goal

abbrev pub invariant-each : goal.invariant-each
invariant-each g l = record {
  listed : l.range-items ≡ l.initial.range-items;
  reported : l.faults.items ++ filter_map (range_kind (laid_of l.layout) l.symbols) (drop l.range-index l.range-items)
      ≡ l.fn.faults.items ++ filter_map (range_kind (laid_of l.layout) l.symbols) l.range-items;
}
