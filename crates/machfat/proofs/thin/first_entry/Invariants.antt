use Rattle.std.proofs.Common.{◌≡◌, drop}
use Rattle.machfat.specs.OfCpu.{first_entry_for}
use Rattle.machfat.proofs.thin.first_entry.Given as goal

abbrev pub invariant-loop-index : goal.invariant-loop-index
invariant-loop-index l = first_entry_for l.bytes l.cpu 0 l.records ≡ first_entry_for l.bytes l.cpu l.index (drop l.index l.records)
