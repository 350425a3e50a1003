use Rattle.std.proofs.Common.{◌≡◌, map, drop}
use Rattle.std.specs.List.{list_any}
use Rattle.mach_load.specs.Variants.{command_of}
use Rattle.mach_layout.specs.Libraries.{says_id}
use Rattle.mach_layout.proofs.libraries.has_id.Given as goal

abbrev pub invariant-loop-command : goal.invariant-loop-command
invariant-loop-command l = list_any says_id (map command_of (drop l.command-index l.commands)) ≡ list_any says_id (map command_of l.commands)
