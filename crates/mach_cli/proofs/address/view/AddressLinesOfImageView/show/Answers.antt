use Rattle.std.proofs.Common.{refl}
use Rattle.mach_cli.proofs.address.view.AddressLinesOfImageView.show.Goals as goal

pub returns-clause-shown : goal.returns-clause-shown
returns-clause-shown g c = λ bytes opened.
    let written = rw (c.in_ok-loaded.ensures.1) at (c.in_ok-whole.ensures bytes) in
    let rows = written opened in (
      rows.0,
      record {
        name = c.args.file;
        is_name = refl;
        rows = rw (c.in_ok-loaded.ensures.0, c.file_if-file.ensures) at rows.1;
        is_rest = refl;
      },
      rows.2,
    )
