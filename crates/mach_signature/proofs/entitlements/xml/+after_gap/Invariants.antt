use Rattle.mach_signature.proofs.entitlements.xml.+after_gap.Given as goal

abbrev pub decreases-after_gap : goal.decreases-after_gap
decreases-after_gap l = l.most
