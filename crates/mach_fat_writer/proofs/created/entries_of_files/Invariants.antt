use Rattle.std.proofs.Common.{◌≡◌, drop}
use Rattle.mach_fat_writer.specs.Entries.{entry_views}
use Rattle.mach_fat_writer.specs.Creates.{entries_of_files, texts_now}
use Rattle.mach_fat_writer.proofs.Gathered.{before}
use Rattle.mach_fat_writer.proofs.created.entries_of_files.Given as goal

abbrev pub invariant-loop-file : goal.invariant-loop-file
invariant-loop-file g l =
    entries_of_files 0 (texts_now l.files) ≡ before (entry_views l.entries.items) (entries_of_files l.file (texts_now (drop l.file l.files)))
