use Rattle.std.proofs.Common.{◌≡◌, map, take}
use Rattle.mach_fat_writer.specs.Entries.{entry_views, fat_entry_view}
use Rattle.mach_fat_writer.specs.Changes.{replaced_entry}
use Rattle.mach_fat_writer.proofs.changed.replaced_among.Given as goal

abbrev pub invariant-loop-entry : goal.invariant-loop-entry
invariant-loop-entry g l =
    entry_views l.replaced.items ≡ map (replaced_entry (fat_entry_view l.new)) (entry_views (take l.entry-index l.entries))
