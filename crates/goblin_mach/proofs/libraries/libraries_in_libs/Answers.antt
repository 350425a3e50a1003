use Rattle.goblin_mach.proofs.LibrariesRead.{in_held_libs}
use Rattle.goblin_mach.proofs.libraries.libraries_in_libs.Goals as goal

pub returns : goal.returns
returns g c = in_held_libs c.args.image.now
