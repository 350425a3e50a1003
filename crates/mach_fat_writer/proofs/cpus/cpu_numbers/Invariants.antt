use Rattle.std.proofs.Common.{◌≡◌, map, take}
use Rattle.mach_fat_writer.specs.Entries.{cpu_number, entry_views}
use Rattle.mach_fat_writer.proofs.cpus.cpu_numbers.Given as goal

abbrev pub invariant-loop-entry : goal.invariant-loop-entry
invariant-loop-entry g l = l.numbers.items ≡ map cpu_number (entry_views (take l.entry-index l.entries))
