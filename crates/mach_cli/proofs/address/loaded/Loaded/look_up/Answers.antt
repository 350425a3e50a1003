use Rattle.std.proofs.Common.{sym}
use Rattle.mach_cli.proofs.address.loaded.Loaded.look_up.Goals as goal

pub returns-in-Some : goal.returns-in-Some
returns-in-Some g c = λ bytes opened.
    let s = c.args.self.now in record {
      base = s.base;
      has_base = (c.base_of_image.ensures.lossy bytes 0 opened s.base).1 s.based;
      is_found = rw (sym c.unslid_address.ensures, c.in-Some.is) (c.found_at.ensures bytes opened);
    }
