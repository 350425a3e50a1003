use Rattle.std.proofs.Common.{take}
use Rattle.std.specs.Io.KnownBytes.{Appends}
use Rattle.std.specs.List.{flat_map}
use Rattle.mach_cli.specs.Escapes.{byte_text}
use Rattle.mach_cli.proofs.escaped.print_bytes.Given as goal

abbrev pub invariant-bytes : goal.invariant-bytes
invariant-bytes g l = Appends (g.O.Write.contents l.fn.out) (g.O.Write.contents l.out) (flat_map byte_text (take l.byte-index l.bytes))
