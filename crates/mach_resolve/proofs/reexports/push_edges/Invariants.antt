use Rattle.std.proofs.Common.{◌≡◌, ◌-◌, ◌++◌, map, reverse, drop}
use Rattle.mach_resolve.specs.Following.{edges_of}
use Rattle.mach_resolve.specs.ResolveViews.{input_view, edge_view}
use Rattle.mach_resolve.proofs.reexports.push_edges.Given as goal

-- the last ones were pushed
abbrev pub invariant-loop-done : goal.invariant-loop-done
invariant-loop-done g l =
    reverse (map edge_view l.left.items) ≡ drop (l.count - l.done) (edges_of (input_view l.file)) ++ reverse (map edge_view l.fn.left.items)
