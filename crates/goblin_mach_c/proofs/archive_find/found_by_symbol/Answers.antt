use Rattle.mach_archive.specs.ArchiveViews.{archive_of}
use Rattle.goblin_mach_c.proofs.ArchiveListed.{found_listed}
use Rattle.goblin_mach_c.proofs.archive_find.found_by_symbol.Goals as goal

pub returns : goal.returns
returns c =
    found_listed (archive_of c.args.archive.now) c.args.name.now c.find_symbol.result c.find_symbol.ensures.found c.find_symbol.ensures.without
    c.find_symbol.ensures.refused
