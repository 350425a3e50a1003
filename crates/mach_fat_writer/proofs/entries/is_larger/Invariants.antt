use Rattle.std.proofs.Common.{◌≡◌, nat_lt, drop}
use Rattle.mach_fat_writer.specs.Entries.{entry_views}
use Rattle.mach_fat_writer.specs.EntriesRead.{entries_len}
use Rattle.mach_fat_writer.proofs.entries.is_larger.Given as goal

abbrev pub invariant-loop-entry : goal.invariant-loop-entry
invariant-loop-entry l =
    nat_lt l.most (entries_len (entry_views l.entries)) ≡ nat_lt l.left (entries_len (entry_views (drop l.entry-index l.entries)))
