use Rattle.std.proofs.Common.{◌≡◌, map, drop}
use Rattle.std.specs.Prelude.{find}
use Rattle.mach_load.specs.Variants.{command_of}
use Rattle.mach_layout.specs.Entry.{is_entry}
use Rattle.mach_layout.proofs.entry.first_entry.Given as goal

abbrev pub invariant-loop-command : goal.invariant-loop-command
invariant-loop-command l = find is_entry (map command_of (drop l.command-index l.commands)) ≡ find is_entry (map command_of l.commands)
