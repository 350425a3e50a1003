use Rattle.std.proofs.Common.{◌≡◌}
use Rattle.mach_archive.specs.ArchiveViews.{archive_symbols_left}
use Rattle.mach_archive.specs.IndexSymbols.{first_named}
use Rattle.mach_archive.proofs.symbols.ArchiveSymbols.find.Given as goal

abbrev pub invariant-symbols : goal.invariant-symbols
invariant-symbols l = record {
  can : (goal.iterator-symbols).can_next l.self;
  finite : (goal.iterator-symbols).is_finite l.self;
  same : first_named l.name (archive_symbols_left l.self) ≡ first_named l.name (archive_symbols_left l.fn.self);
}
