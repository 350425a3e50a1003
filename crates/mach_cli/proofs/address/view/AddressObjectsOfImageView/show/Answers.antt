use Rattle.std.proofs.Common.{◌++◌, refl}
use Rattle.std.specs.Prelude.{codes}
use Rattle.mach_base.proofs.Written.{Appends-both}
use Rattle.mach_cli.proofs.address.view.AddressObjectsOfImageView.show.Goals as goal

pub returns-clause-shown : goal.returns-clause-shown
returns-clause-shown g c = λ bytes opened.
    let written = rw (c.in_ok-loaded.ensures.1) at (c.in_ok-whole.ensures bytes) in
    let rows = written opened in
    let end = codes "],\"kind\":\"image\"" in (
      codes "\"at\":[" ++ (rows.0 ++ end),
      record { elements = rows.0; rows = rw (c.in_ok-loaded.ensures.0) at rows.1; is_text = refl; is_rest = refl },
      Appends-both _ _ _ (codes "\"at\":[") (rows.0 ++ end) c.in_ok-write.ensures.bytes
          (Appends-both _ _ _ rows.0 end rows.2 c.in_ok-write-2.ensures.bytes),
    )
