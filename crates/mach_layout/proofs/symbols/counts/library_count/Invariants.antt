use Rattle.std.proofs.Common.{◌≡◌, ◌≤◌, ◌+◌, map, drop}
use Rattle.std.specs.Prelude.{count_by}
use Rattle.mach_load.specs.Variants.{command_of}
use Rattle.mach_layout.specs.Symbols.{brings_library}
use Rattle.mach_layout.proofs.symbols.counts.library_count.Given as goal

abbrev pub invariant-loop-command : goal.invariant-loop-command
invariant-loop-command l = record {
  few : l.count ≤ l.command-index;
  counted : l.count + count_by brings_library (map command_of (drop l.command-index l.layout.commands.now))
      ≡ count_by brings_library (map command_of l.layout.commands.now);
}
