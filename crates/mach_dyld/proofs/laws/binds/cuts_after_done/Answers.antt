use Rattle.mach_dyld.proofs.BindCut.{cuts}
use Rattle.mach_dyld.proofs.laws.binds.cuts_after_done.Goals as goal

pub returns : goal.returns
returns c = cuts
