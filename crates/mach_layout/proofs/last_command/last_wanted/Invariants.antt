use Rattle.std.proofs.Common.{◌≡◌, None, map, drop}
use Rattle.std.specs.List.{filter_map, last_or}
use Rattle.mach_load.specs.Variants.{command_of}
use Rattle.mach_layout.proofs.last_command.last_wanted.Given as goal

abbrev pub invariant-loop-command : goal.invariant-loop-command
invariant-loop-command g l =
    last_or l.last (filter_map g.W.Wanted.wanted (map command_of (drop l.command-index l.commands)))
    ≡ last_or None (filter_map g.W.Wanted.wanted (map command_of l.commands))
