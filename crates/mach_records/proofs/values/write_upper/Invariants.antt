use Rattle.std.proofs.Common.{take}
use Rattle.std.specs.Fmt.{HasWritten, IsPlainFormatter}
use Rattle.mach_records.specs.Values.{upper_bytes}
use Rattle.mach_records.proofs.values.write_upper.Given as goal

abbrev pub invariant-bytes : goal.invariant-bytes
invariant-bytes g l = IsPlainFormatter l.initial.f → HasWritten g.W.Write.write_str_gives l.initial.f (upper_bytes (take l.byte-index l.bytes)) l.f
