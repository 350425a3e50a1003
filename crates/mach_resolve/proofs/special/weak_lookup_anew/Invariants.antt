use Rattle.mach_resolve.specs.ResolveViews.{input_views}
use Rattle.mach_resolve.proofs.Weak.{WeakSoFar}
use Rattle.mach_resolve.proofs.special.weak_lookup_anew.Given as goal

abbrev pub invariant-loop-place : goal.invariant-loop-place
invariant-loop-place g l = WeakSoFar (input_views l.files) l.name l.place l.weak
