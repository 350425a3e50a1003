use Rattle.std.proofs.Common.{List, ℕ}
use Rattle.std.specs.Fmt.{HasWritten, IsPlainFormatter}
use Rattle.std.specs.Str.{IsCharBoundary}
use Rattle.mach_cli.proofs.Written.{IsSoFar}
use Rattle.mach_cli.proofs.escaped.write_runs.Given as goal

abbrev pub invariant-bytes : goal.invariant-bytes
invariant-bytes g l =
    IsCharBoundary l.fn.text l.start × (done : List ℕ) × IsSoFar l.fn.style l.fn.text l.start l.at done
    × (IsPlainFormatter l.initial.f → HasWritten g.W.Write.write_str_gives l.initial.f done l.f)
