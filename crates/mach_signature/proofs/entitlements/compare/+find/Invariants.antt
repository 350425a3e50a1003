use Rattle.mach_signature.proofs.entitlements.compare.+find.Given as goal

abbrev pub decreases-find : goal.decreases-find
decreases-find l = l.steps
