use Rattle.std.proofs.Common.{◌≡◌, drop}
use Rattle.mach_fat_writer.specs.Entries.{entry_views}
use Rattle.mach_fat_writer.specs.EntriesRead.{entries_by}
use Rattle.mach_fat_writer.proofs.Gathered.{before}
use Rattle.mach_fat_writer.proofs.entries.entries_of.Given as goal

abbrev pub invariant-loop-index : goal.invariant-loop-index
invariant-loop-index g l =
    entries_by l.bytes 0 l.records ≡ before (entry_views l.entries.items) (entries_by l.bytes l.index (drop l.index l.records))
