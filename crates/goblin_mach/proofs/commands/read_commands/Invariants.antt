use Rattle.std.proofs.Common.{◌≡◌, map, length}
use Rattle.goblin_mach.specs.Chain.{IsChain, chain_end}
use Rattle.mach_load.specs.Variants.{command_of}
use Rattle.goblin_mach.proofs.commands.read_commands.Given as goal

abbrev pub invariant-loop : goal.invariant-loop
invariant-loop g l = record {
  chain : IsChain l.le l.bytes l.first (map command_of l.commands.items);
  count : length (map command_of l.commands.items) ≡ l.counter;
  place : l.offset ≡ chain_end l.first (map command_of l.commands.items);
}
