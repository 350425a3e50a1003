use Rattle.std.proofs.Common.{◌≡◌, ◌++◌, ℕ, List, drop}
use Rattle.std.specs.Io.KnownBytes.{Appends}
use Rattle.machfat.specs.Lines.{records_from}
use Rattle.machfat.proofs.entry.print_records.Given as goal

abbrev pub invariant-records : goal.invariant-records
invariant-records g l =
    (done : List ℕ) × Appends (g.O.Write.contents l.fn.out) (g.O.Write.contents l.out) done
    × (done ++ records_from l.form l.bytes l.index (drop l.index l.records) ≡ records_from l.form l.bytes 0 l.records)
