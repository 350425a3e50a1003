use Rattle.std.proofs.Common.{ap, refl, sym}
use Rattle.mach_base.proofs.Written.{Appends-both}
use Rattle.machfat.specs.SymbolLines.{a_symbol, item_of_member, of_no_member}
use Rattle.machfat.proofs.archive.symbol.print_named.Goals as goal

pub returns-in_ok-print_name_end-in-Ok : goal.returns-in_ok-print_name_end-in-Ok
returns-in_ok-print_name_end-in-Ok g c =
    let name = c.args.name.now in (
      a_symbol c.args.place name,
      sym (ap (item_of_member c.args.place name) c.in-Ok.ensures),
      refl,
      Appends-both _ _ _ _ _ c.in_ok-write-in-Ok.ensures.bytes c.in_ok-print_name_end-in-Ok.ensures,
    )

pub returns-in_ok-print_name_end-in-Err : goal.returns-in_ok-print_name_end-in-Err
returns-in_ok-print_name_end-in-Err g c =
    let name = c.args.name.now in (
      of_no_member c.args.place name c.in-Err.error,
      sym (ap (item_of_member c.args.place name) c.in-Err.ensures),
      refl,
      rw (sym c.describe-words.ensures) (Appends-both _ _ _ _ _ c.in_ok-write-in-Err.ensures.bytes c.in_ok-print_name_end-in-Err.ensures),
    )
