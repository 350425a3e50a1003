use Rattle.std.proofs.Common.{◌≡◌, ◌-◌}
use Rattle.mach_signature.specs.Numbered.{reported_left}
use Rattle.mach_signature.proofs.numbered.NumberedFaults.take_next.Given as goal

abbrev pub invariant-loop-self : goal.invariant-loop-self
invariant-loop-self g l =
    reported_left g.T.Numbered.count g.T.Numbered.reports l.self ≡ reported_left g.T.Numbered.count g.T.Numbered.reports l.initial.self

abbrev pub decreases-loop-self : goal.decreases-loop-self
decreases-loop-self g l = g.T.Numbered.count l.self.things - l.self.next
