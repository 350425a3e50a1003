use Rattle.goblin_mach_c.proofs.WalkedImages.{zeros}
use Rattle.goblin_mach_c.proofs.laws.walk_of_zeros.Goals as goal

pub returns : goal.returns
returns c = zeros
