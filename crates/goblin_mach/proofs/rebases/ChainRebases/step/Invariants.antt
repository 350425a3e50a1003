use Rattle.std.proofs.Common.{◌≡◌, length}
use Rattle.goblin_mach.specs.FixupsLeft.{image_fixups_left}
use Rattle.goblin_mach.specs.RebasesLeft.{chain_rebases_left}
use Rattle.goblin_mach.proofs.rebases.ChainRebases.step.Given as goal

abbrev pub invariant-fixups : goal.invariant-fixups
invariant-fixups l = chain_rebases_left l.initial.self ≡ chain_rebases_left l.self

abbrev pub decreases-fixups : goal.decreases-fixups
decreases-fixups l = length (image_fixups_left l.self.fixups)
