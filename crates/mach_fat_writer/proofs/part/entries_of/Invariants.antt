use Rattle.std.proofs.Common.{◌≡◌, drop}
use Rattle.mach_fat_writer.specs.Entries.{entry_views}
use Rattle.mach_fat_writer.specs.Parts.{part_entries}
use Rattle.mach_fat_writer.proofs.GatheredParts.{before}
use Rattle.mach_fat_writer.proofs.part.entries_of.Given as goal

abbrev pub invariant-loop-part : goal.invariant-loop-part
invariant-loop-part g l =
    part_entries l.bytes l.parts ≡ before (entry_views l.entries.items) (part_entries l.bytes (drop l.part-index l.parts))
