use Rattle.std.proofs.Common.{◌≡◌, length}
use Rattle.std.specs.Slice.Iter.{iter_rest}
use Rattle.mach_layout.specs.ClaimsLeft.{claims_left}
use Rattle.mach_layout.proofs.claiming.ClaimIteratorIterator.next.Given as goal

abbrev pub invariant-commands : goal.invariant-commands
invariant-commands l = claims_left l.initial.self ≡ claims_left l.self

abbrev pub decreases-commands : goal.decreases-commands
decreases-commands l = length (iter_rest l.self.commands)
