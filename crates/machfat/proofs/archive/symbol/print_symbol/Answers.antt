use Rattle.std.proofs.Common.{ap, refl, sym}
use Rattle.mach_archive.specs.ArchiveViews.{archive_of}
use Rattle.machfat.specs.SymbolLines.{item_of_name, of_no_name}
use Rattle.machfat.proofs.archive.symbol.print_symbol.Goals as goal

pub returns-in_ok-writeln-in-Err : goal.returns-in_ok-writeln-in-Err
returns-in_ok-writeln-in-Err g c =
    let place = c.args.symbol.now.member in (
      of_no_name place c.in-Err.error,
      sym (ap (item_of_name (archive_of c.args.archive.now) place) c.in-Err.ensures),
      refl,
      rw (sym c.describe-words.ensures) c.in_ok-writeln-in-Err.ensures.bytes,
    )
