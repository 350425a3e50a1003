use Rattle.std.proofs.Common.{◌≡◌, map, drop}
use Rattle.std.specs.Prelude.{slice_get}
use Rattle.std.specs.List.{filter_map}
use Rattle.mach_load.specs.Variants.{command_of}
use Rattle.mach_layout.specs.Segments.{encrypted_by}
use Rattle.mach_layout.proofs.segments.first_encrypted.Given as goal

abbrev pub invariant-loop-command : goal.invariant-loop-command
invariant-loop-command l =
    slice_get (filter_map encrypted_by (map command_of (drop l.command-index l.commands))) 0
    ≡ slice_get (filter_map encrypted_by (map command_of l.commands)) 0
