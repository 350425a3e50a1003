use Rattle.std.proofs.Common.{◌≡◌, ◌-◌, map, reverse, drop}
use Rattle.mach_resolve.specs.Following.{met_first}
use Rattle.mach_resolve.specs.ResolveViews.{input_views, edge_view}
use Rattle.mach_resolve.proofs.reexports.following_all.Given as goal

-- the last ones were pushed
abbrev pub invariant-loop-done : goal.invariant-loop-done
invariant-loop-done g l = reverse (map edge_view l.starts.items) ≡ drop (l.count - l.done) (map (λ f. met_first f.name) (input_views l.files))
