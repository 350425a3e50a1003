use Rattle.std.specs.Prelude.{◌↔◌}
use Rattle.mach_dyld.specs.Turns.{AnyBelow, IsRing}
use Rattle.mach_dyld.proofs.stride.Turns.any_below.Given as goal

abbrev pub invariant-rounds : goal.invariant-rounds
invariant-rounds l = record {
  ring : IsRing l.turns;
  same : AnyBelow l.limit l.turns ↔ AnyBelow l.limit l.fn.self;
}

abbrev pub decreases-rounds : goal.decreases-rounds
decreases-rounds l = l.turns.size
