use Rattle.std.proofs.Common.{ap, sym}
use Rattle.std.proofs.lemmas.Result.{IfOk-weaker}
use Rattle.mach_archive.specs.ArchiveViews.{archive_of, archive_symbol_read}
use Rattle.machfat.specs.SymbolLines.{no_more_symbols, symbol_item}
use Rattle.machfat.proofs.archive.symbol.print_answer.Goals as goal

pub returns-in-Err : goal.returns-in-Err
returns-in-Err g c =
    IfOk-weaker c.print_refused.result _ _
    (λ whole said.
    (no_more_symbols c.in-Err.error, sym (ap (λ answer. symbol_item (archive_of c.args.archive.now) (archive_symbol_read answer)) c.in-Err.is), said.0, said.1))
    c.print_refused.ensures
