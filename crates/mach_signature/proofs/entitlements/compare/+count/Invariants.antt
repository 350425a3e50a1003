use Rattle.mach_signature.proofs.entitlements.compare.+count.Given as goal

abbrev pub decreases-count : goal.decreases-count
decreases-count l = l.steps
