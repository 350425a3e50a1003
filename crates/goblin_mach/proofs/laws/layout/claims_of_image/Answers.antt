use Rattle.goblin_mach.proofs.ImageFacts.{strict-lossy}
use Rattle.goblin_mach.proofs.BytesFacts.{claims_are}
use Rattle.goblin_mach.proofs.laws.layout.claims_of_image.Goals as goal

pub returns : goal.returns
returns g c =
    let m = c.args.image.now in record {
      strict = λ bytes p. claims_are bytes m (strict-lossy bytes 0 m p);
      lossy = λ bytes p. claims_are bytes m p;
    }
