use Rattle.mach_signature.proofs.requirements.requirement.+write_at.Given as goal

abbrev pub decreases-write_at : goal.decreases-write_at
decreases-write_at g l = l.depth
