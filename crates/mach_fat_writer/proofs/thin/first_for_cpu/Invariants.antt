use Rattle.std.proofs.Common.{◌≡◌, drop}
use Rattle.mach_fat_writer.specs.Changes.{first_for_cpu}
use Rattle.mach_fat_writer.proofs.thin.first_for_cpu.Given as goal

abbrev pub invariant-loop-index : goal.invariant-loop-index
invariant-loop-index l = first_for_cpu l.bytes l.cputype 0 l.records ≡ first_for_cpu l.bytes l.cputype l.index (drop l.index l.records)
