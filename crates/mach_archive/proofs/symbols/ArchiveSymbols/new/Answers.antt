use Rattle.mach_archive.proofs.SymbolsRead.{symbols_are}
use Rattle.mach_archive.proofs.symbols.ArchiveSymbols.new.Goals as goal

pub returns-clause-items : goal.returns-clause-items
returns-clause-items c = symbols_are _
