use Rattle.std.proofs.Common.{◌≡◌, map, drop}
use Rattle.std.specs.List.{list_any}
use Rattle.mach_load.specs.Variants.{command_of}
use Rattle.mach_layout.specs.Commands.{is_symbols}
use Rattle.mach_layout.proofs.commands.has_symbols.Given as goal

abbrev pub invariant-loop-command : goal.invariant-loop-command
invariant-loop-command l = list_any is_symbols (map command_of (drop l.command-index l.commands)) ≡ list_any is_symbols (map command_of l.commands)
