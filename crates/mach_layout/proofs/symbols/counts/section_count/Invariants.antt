use Rattle.std.proofs.Common.{◌≡◌, ◌+◌, ◌-◌, ◌<◌, ◌^◌, min, map, drop}
use Rattle.std.specs.Prelude.{sum_by}
use Rattle.mach_load.specs.Variants.{command_of}
use Rattle.mach_layout.specs.Laid.{placed_segment_of}
use Rattle.mach_layout.specs.Symbols.{nsects_of}
use Rattle.mach_layout.proofs.symbols.counts.section_count.Given as goal

abbrev pub invariant-loop-command : goal.invariant-loop-command
invariant-loop-command l = record {
  fits : l.count < 2 ^ 64;
  counted : min (l.count + sum_by (λ c. nsects_of (placed_segment_of c)) (map command_of (drop l.command-index l.layout.commands.now))) (2 ^ 64 - 1)
      ≡ min (sum_by (λ c. nsects_of (placed_segment_of c)) (map command_of l.layout.commands.now)) (2 ^ 64 - 1);
}
