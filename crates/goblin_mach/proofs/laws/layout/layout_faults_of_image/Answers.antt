use Rattle.goblin_mach.proofs.ImageFacts.{strict-lossy}
use Rattle.goblin_mach.proofs.BytesFacts.{faults_are}
use Rattle.goblin_mach.proofs.laws.layout.layout_faults_of_image.Goals as goal

pub returns : goal.returns
returns g c =
    let m = c.args.image.now in record {
      strict = λ bytes p. faults_are bytes m (strict-lossy bytes 0 m p);
      lossy = λ bytes p. faults_are bytes m p;
    }
