use Rattle.mach_signature.proofs.entitlements.debuggers.+has_true.Given as goal

abbrev pub decreases-has_true : goal.decreases-has_true
decreases-has_true l = l.steps
