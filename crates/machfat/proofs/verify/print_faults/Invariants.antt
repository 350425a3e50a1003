use Rattle.std.proofs.Common.{◌≡◌, ◌++◌, ℕ, List, drop}
use Rattle.std.specs.Io.KnownBytes.{Appends}
use Rattle.machfat.specs.Faults.{fault_lines}
use Rattle.machfat.proofs.verify.print_faults.Given as goal

abbrev pub invariant-faults : goal.invariant-faults
invariant-faults g l =
    (done : List ℕ) × Appends (g.O.Write.contents l.fn.out) (g.O.Write.contents l.out) done
    × (done ++ fault_lines (drop l.fault-index l.faults) ≡ fault_lines l.faults)
