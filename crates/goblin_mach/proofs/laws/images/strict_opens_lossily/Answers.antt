use Rattle.goblin_mach.proofs.laws.images.strict_opens_lossily.Goals as goal

pub returns : goal.returns
returns c = λ bytes o opens. (opens.0, opens.1, opens.2.lossy)
