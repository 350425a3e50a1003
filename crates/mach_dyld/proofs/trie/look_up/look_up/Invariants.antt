use Rattle.std.proofs.Common.{◌-◌}
use Rattle.mach_dyld.proofs.LookUpFollows.{Follows}
use Rattle.mach_dyld.proofs.trie.look_up.look_up.Given as goal

abbrev pub invariant-turns : goal.invariant-turns
invariant-turns g l = Follows l.source l.name l.start l.rest l.fn.steps l.steps

abbrev pub decreases-turns : goal.decreases-turns
decreases-turns g l = l.source.upto - l.start
