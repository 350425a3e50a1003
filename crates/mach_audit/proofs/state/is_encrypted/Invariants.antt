use Rattle.std.proofs.Common.{◌≡◌, map, take}
use Rattle.std.specs.List.{list_any}
use Rattle.mach_load.specs.Variants.{command_of}
use Rattle.mach_audit.specs.States.{is_encrypting}
use Rattle.mach_audit.proofs.state.is_encrypted.Given as goal

abbrev pub invariant-commands : goal.invariant-commands
invariant-commands l = l.is_encrypted ≡ list_any is_encrypting (map command_of (take l.command-index l.commands))
