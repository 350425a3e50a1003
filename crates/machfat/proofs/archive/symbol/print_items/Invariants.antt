use Rattle.std.proofs.Common.{◌≡◌, ◌≤◌, ◌++◌, List, Result, length}
use Rattle.mach_base.specs.Fault.{Fault}
use Rattle.mach_archive.specs.ArchiveViews.{archive_of, archive_symbols_left}
use Rattle.mach_archive.specs.IndexSymbols.{IndexSymbol}
use Rattle.machfat.proofs.MembersReported.{SymbolsGone}
use Rattle.machfat.proofs.archive.symbol.print_items.Given as goal

abbrev pub invariant-symbols : goal.invariant-symbols
invariant-symbols g l =
    (done : List (Result IndexSymbol Fault)) × (archive_symbols_left l.fn.symbols ≡ done ++ archive_symbols_left l.answer-iterator)
    × (l.number ≡ length done) × (l.number ≤ l.left) × SymbolsGone (archive_of l.archive) done l.whole (g.O.Write.contents l.fn.out) (g.O.Write.contents l.out)
