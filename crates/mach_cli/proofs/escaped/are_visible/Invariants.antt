use Rattle.std.proofs.Common.{◌≡◌, take}
use Rattle.std.specs.List.{list_all}
use Rattle.mach_cli.specs.Escapes.{is_visible}
use Rattle.mach_cli.proofs.escaped.are_visible.Given as goal

abbrev pub invariant-bytes : goal.invariant-bytes
invariant-bytes l = l.are_visible ≡ list_all (is_visible l.style) (take l.byte-index l.bytes)
