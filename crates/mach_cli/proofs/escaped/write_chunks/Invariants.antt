use Rattle.std.proofs.Common.{List, ℕ}
use Rattle.std.specs.Fmt.{HasWritten, IsPlainFormatter}
use Rattle.std.specs.Str.Chunks.{utf8_chunks_rest}
use Rattle.mach_cli.proofs.Written.{IsCutSoFar}
use Rattle.mach_cli.proofs.escaped.write_chunks.Given as goal

abbrev pub invariant-chunks : goal.invariant-chunks
invariant-chunks g l =
    (done : List ℕ) × IsCutSoFar l.fn.bytes (utf8_chunks_rest l.chunk-iterator) done
    × (IsPlainFormatter l.initial.f → HasWritten g.W.Write.write_str_gives l.initial.f done l.f)
