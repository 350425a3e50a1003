use Rattle.std.proofs.Common.{◌++◌, refl}
use Rattle.std.specs.Prelude.{◌||◌}
use Rattle.mach_base.proofs.Written.{Appends-both}
use Rattle.mach_cli.specs.Listings.{cut_line}
use Rattle.machfat.proofs.archive.print_archive.Goals as goal

pub returns : goal.returns
returns g c =
    let members = c.in_ok-members.ensures in
    let symbols = c.in_ok-symbols.ensures in
    let first = c.in_ok-members.members in
    let second = c.in_ok-symbols.symbols in
    let cut = cut_line c.args.limit (first.more || second.more) in
    record {
      text = members.text ++ (symbols.text ++ cut);
      are_lines = record {
        members = members.text;
        symbols = symbols.text;
        first = first;
        second = second;
        are_members = members.are_lines;
        are_symbols = symbols.are_lines;
        is_text = refl;
        is_whole = refl;
        is_left = refl;
      };
      written = Appends-both _ _ _ members.text (symbols.text ++ cut) members.written
          (Appends-both _ _ _ symbols.text cut symbols.written c.in_ok-print_cut.ensures);
    }
