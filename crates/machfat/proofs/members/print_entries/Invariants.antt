use Rattle.std.proofs.Common.{take}
use Rattle.machfat.specs.Written.{WritesAs}
use Rattle.machfat.specs.Members.{AreEntryLines}
use Rattle.machfat.proofs.members.print_entries.Given as goal

abbrev pub invariant-records : goal.invariant-records
invariant-records g l =
    WritesAs (AreEntryLines l.limit l.bytes (take l.index-counter l.records)) l.outcome (g.O.Write.contents l.fn.out) (g.O.Write.contents l.out)
